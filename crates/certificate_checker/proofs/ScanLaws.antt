-- A scan of a list for an item that lacks something.
use Rattle.std.specs.Prelude.{ℕ, ◌≡◌, ◌<◌, ◌≤◌, ◌↔◌, true, false, List, length, All, IsTrue, refl}
use Rattle.std.proofs.Common.{take, get_or, sym, subst}
use Rattle.std.proofs.lemmas.Bool.{false≢true}
use Rattle.std.proofs.lemmas.List.{take_all}

module _ {X : Type 0} (P : X → Type 0) (xs : List X) (i : ℕ) where
  -- an item lacks it
  pub scan-stops : (x d : X) → i < length xs → x ≡ get_or xs i d → (P x → ⊥) → IsTrue false ↔ All P xs
  scan-stops x d short is lacks = (λ never. absurd (false≢true never), λ all. absurd (lacks (subst P (sym is) (all i d short))))

  -- none does
  pub scan-ends : length xs ≤ i → All P (take i xs) → IsTrue true ↔ All P xs
  scan-ends out all = (λ _. subst (All P) (take_all i xs out) all, λ _. refl)
