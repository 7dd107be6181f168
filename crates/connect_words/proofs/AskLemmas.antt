-- The node of a name.
use Rattle.std.proofs.Common.{◌≡◌, ◌≢◌, ℕ, ◌<◌, Bool, true, false, List, [], length, get_or, All, AllPairs, refl, sym, ◌∙◌, arith}
use Rattle.std.specs.Prelude.{bytes_eq}
use Rattle.std.specs.List.{position_or_len}
use Rattle.std.proofs.lemmas.List.Sums.{position_or_len_is}
use Rattle.std.proofs.lemmas.Slice.Eq.{bytes_eq-Decides}

is_false : (b : Bool) → (b ≡ true → ⊥) → b ≡ false
is_false true h = absurd (h refl)
is_false false h = refl

differs : (a b : List ℕ) → a ≢ b → bytes_eq a b ≡ false
differs a b h = is_false (bytes_eq a b) (λ t. h ((bytes_eq-Decides a b).0 t))

pub position-found : (names : List (List ℕ)) (name : List ℕ) (v : ℕ) → AllPairs (λ a b. a ≢ b) names → v < length names → get_or names v [] ≡ name → position_or_len (λ known. bytes_eq known name) names ≡ v
position-found names name v distinct within is =
    position_or_len_is (λ known. bytes_eq known name) names v [] (omega (arith, within))
    (λ k below. differs (get_or names k []) name (λ e. distinct k v [] below within (e ∙ sym is)))
    (λ below. (bytes_eq-Decides (get_or names v []) name).1 is)

pub position-absent : (names : List (List ℕ)) (name : List ℕ) → All (λ known. known ≢ name) names → position_or_len (λ known. bytes_eq known name) names ≡ length names
position-absent names name absent =
    position_or_len_is (λ known. bytes_eq known name) names (length names) [] (omega arith)
    (λ k below. differs (get_or names k []) name (absent k [] below))
    (λ below. absurd (omega (arith, below)))
