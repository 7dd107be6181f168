-- Laws of lists by their items: reads, removals, and sums of two items.
use Rattle.std.specs.Prelude.{ℕ, zero, suc, ◌≡◌, ◌+◌, ◌<◌, ◌≤◌, List, [], ◌∷◌, Some, slice_get, slice_index, length, get_or, sum_by, All}
use Rattle.std.specs.List.{remove}
use Rattle.std.proofs.Common.{inl, inr, arith, sym, take, drop}
use Rattle.std.proofs.lemmas.Bool.{cases_lt}
use Rattle.std.proofs.lemmas.List.{get_or_past}
use Rattle.std.proofs.lemmas.List.Sums.{sum_by-cons, get_or-le-sum_by}
use Rattle.std.proofs.lemmas.List.Elements.{All-take, All-drop, All-append}

-- a place with a number is one of the list
pub counted_below : {n : ℕ} (counts : List ℕ) (v : ℕ) → length counts ≡ n → 1 ≤ slice_index counts v → v < n
counted_below {n} counts v long some =
    elim (cases_lt v n) [
      | inl l ↦ l
      | inr past ↦ absurd (omega (arith, get_or_past counts v 0 (omega arith)))
    ]

module _ {A : Type 0} where
  pub All-remove : (Q : A → Type 0) (xs : List A) (i : ℕ) → All Q xs → All Q (remove xs i)
  All-remove Q xs i h = All-append Q (take i xs) (drop (suc i) xs) (All-take Q i xs h) (All-drop Q (suc i) xs h)

  -- the first item of a list, and the rest of it
  pub first-rest : (xs ys : List A) (x : A) → slice_get xs 0 ≡ Some x → ys ≡ remove xs 0 → xs ≡ x ∷ ys
  first-rest [] ys x is rest = absurd cc
  first-rest (y ∷ xs) ys x is rest = let same : y ≡ x = cc in (λ t. same t ∷ sym rest t)

  -- two items are no more than all
  pub two-le-sum_by : (g : A → ℕ) (xs : List A) (i j : ℕ) (d : A) → i < j → j < length xs → g (get_or xs i d) + g (get_or xs j d) ≤ sum_by g xs
  two-le-sum_by g [] i j d l m = absurd (omega arith)
  two-le-sum_by g (x ∷ xs) zero zero d l m = absurd (omega arith)
  two-le-sum_by g (x ∷ xs) (suc i) zero d l m = absurd (omega arith)
  two-le-sum_by g (x ∷ xs) zero (suc j) d l m = omega (arith, sum_by-cons g x xs, get_or-le-sum_by g xs j d (omega arith))
  two-le-sum_by g (x ∷ xs) (suc i) (suc j) d l m = omega (arith, sum_by-cons g x xs, two-le-sum_by g xs i j d (omega arith) (omega arith))

  -- what a read of an item that is there gives
  pub read_some : (xs : List A) (i : ℕ) (x d : A) → slice_get xs i ≡ Some x → x ≡ get_or xs i d
  read_some [] i x d e = absurd cc
  read_some (y ∷ xs) zero x d e = cc
  read_some (y ∷ xs) (suc i) x d e = read_some xs i x d e
