use Rattle.std.proofs.Common.{ℕ, zero, suc, ◌≡◌, ◌<◌, ◌≤◌, List, [], ◌∷◌, true, false, arith}
use Rattle.std.specs.Prelude.{Bool}
use Rattle.std.proofs.lemmas.Bool.{and_parts}
use Rattle.graph_core.specs.Side.{has, IsProper}
use Rattle.graph_core.proofs.SideLaws.{has-none}
use Rattle.graph_core.proofs.ProperLaws.{node_in, node_out}
use Rattle.cut_fn.specs.Stars.{star_cut}
use Rattle.solver_tests.proofs.splitting.is_covered.Goals as goal

-- what holds of each proper side of three nodes
proper_sides : (P : List Bool → Type 0)
    → P (true ∷ false ∷ false ∷ []) → P (false ∷ true ∷ false ∷ []) → P (false ∷ false ∷ true ∷ []) → P (true ∷ true ∷ false ∷ []) → P (true ∷ false ∷ true ∷ [])
    → P (false ∷ true ∷ true ∷ []) → (X : List Bool) → IsProper 3 X → P X
proper_sides P a b c ab ac bc [] x = absurd (omega (arith, x.long))
proper_sides P a b c ab ac bc (p ∷ []) x = absurd (omega (arith, x.long))
proper_sides P a b c ab ac bc (p ∷ q ∷ []) x = absurd (omega (arith, x.long))
proper_sides P a b c ab ac bc (true ∷ false ∷ false ∷ []) x = a
proper_sides P a b c ab ac bc (false ∷ true ∷ false ∷ []) x = b
proper_sides P a b c ab ac bc (false ∷ false ∷ true ∷ []) x = c
proper_sides P a b c ab ac bc (true ∷ true ∷ false ∷ []) x = ab
proper_sides P a b c ab ac bc (true ∷ false ∷ true ∷ []) x = ac
proper_sides P a b c ab ac bc (false ∷ true ∷ true ∷ []) x = bc
proper_sides P a b c ab ac bc (true ∷ true ∷ true ∷ []) x = let (v, l, out) = node_out (true ∷ true ∷ true ∷ []) x in absurd (all v l out)
  where
    all : (v : ℕ) → v < 3 → has (true ∷ true ∷ true ∷ []) v ≡ false → ⊥
    all zero l out = cc
    all (suc zero) l out = cc
    all (suc (suc zero)) l out = cc
    all (suc (suc (suc v))) l out = omega arith
proper_sides P a b c ab ac bc (false ∷ false ∷ false ∷ []) x = let (v, l, inside) = node_in (false ∷ false ∷ false ∷ []) x in absurd (cc (inside, has-none 3 v))
proper_sides P a b c ab ac bc (p ∷ q ∷ r ∷ s ∷ X) x = absurd (omega (arith, x.long))

pub returns : goal.returns
returns c = λ e.
    let (e5, h6) = and_parts _ _ e in
    let (e4, h5) = and_parts _ _ e5 in
    let (e3, h4) = and_parts _ _ e4 in
    let (e2, h3) = and_parts _ _ e3 in
    let (h1, h2) = and_parts _ _ e2 in
    proper_sides (λ X. c.args.k ≤ star_cut c.args.star.now X)
    (c.has_value-a.ensures h1)
    (c.has_value-b.ensures h2)
    (c.has_value-c.ensures h3)
    (c.has_value-ab.ensures h4)
    (c.has_value-ac.ensures h5)
    (c.has_value-bc.ensures h6)
