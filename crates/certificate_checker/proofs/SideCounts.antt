-- A side has a node where its size is not 0.
use Rattle.std.proofs.Common.{ℕ, suc, ◌≡◌, ◌≤◌, Bool, true, false, List, [], ◌∷◌, length, All, refl, arith}
use Rattle.std.specs.Prelude.{Contains}
use Rattle.std.proofs.lemmas.List.Sums.{sum_by-cons}
use Rattle.graph_core.specs.Side.{size, IsNonempty}
use Rattle.graph_core.proofs.Counting.{weight, All-both}

pub some-in : (X : List Bool) → 1 ≤ size X → Contains X true
some-in [] h = absurd (omega arith)
some-in (true ∷ X) h = (0, omega arith, refl)
some-in (false ∷ X) h = let (k, l, e) = some-in X (omega (arith, sum_by-cons weight false X)) in (suc k, omega arith, e)

pub sized-nonempty : (n : ℕ) (P : List (List Bool)) → All (λ X. length X ≡ n) P → All (λ X. 1 ≤ size X) P → All (IsNonempty n) P
sized-nonempty n P long some = All-both (λ X. length X ≡ n) (λ X. 1 ≤ size X) (IsNonempty n) (λ X e h. record { long = e; some_in = some-in X h }) P long some
