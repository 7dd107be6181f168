-- Laws of sums over the lines that pass a test, each as often as its number says.
use Rattle.std.specs.Prelude.{ℕ, zero, suc, ◌≡◌, ◌+◌, ◌*◌, ◌≤◌, Bool, true, cond, List, [], ◌∷◌, Option, Some, None, slice_get, length, sum_by, count_by, All, refl}
use Rattle.std.specs.List.{cons_option}
use Rattle.std.proofs.Common.{arith, inl, inr}
use Rattle.std.proofs.lemmas.Bool.{cases_Bool, cases_lt}
use Rattle.std.proofs.lemmas.List.Sums.{sum_by-cons}
use Rattle.std.proofs.lemmas.List.Elements.{All-nil, All-cons, All-head, All-tail}
use Rattle.graph_core.proofs.Counting.{weight, passes, weighed, sum_by-zero, sum_by-add, length-le-sum_by}

-- a count over a list with one item more or not
pub count-option : {X : Type 0} (p : X → Bool) (o : Option X) (xs : List X) → count_by p (cons_option o xs) ≡ weight (passes p o) + count_by p xs
count-option p None xs = omega arith
count-option p (Some x) xs = sum_by-cons (λ y. weight (p y)) x xs

module _ {X : Type 0} (p : X → Bool) where
  -- two sums against two, compared line by line
  pub weighed-le : (xs : List X) (f g h k : ℕ → ℕ) → ((j : ℕ) (x : X) → slice_get xs j ≡ Some x → p x ≡ true → f j + g j ≤ h j + k j) → weighed p xs f + weighed p xs g ≤ weighed p xs h + weighed p xs k
  weighed-le [] f g h k each = omega arith
  weighed-le (x ∷ xs) f g h k each =
      let rest = weighed-le xs (λ j. f (suc j)) (λ j. g (suc j)) (λ j. h (suc j)) (λ j. k (suc j)) (λ j y e q. each (suc j) y e q) in
      elim (cases_Bool (p x)) [
        | inl pass ↦ rw pass (let first = each 0 x refl pass in omega arith)
        | inr fail ↦ rw fail (omega arith)
      ]

  -- one against two
  pub weighed-le_two : (xs : List X) (f h k : ℕ → ℕ) → ((j : ℕ) (x : X) → slice_get xs j ≡ Some x → p x ≡ true → f j ≤ h j + k j) → weighed p xs f ≤ weighed p xs h + weighed p xs k
  weighed-le_two [] f h k each = omega arith
  weighed-le_two (x ∷ xs) f h k each =
      let rest = weighed-le_two xs (λ j. f (suc j)) (λ j. h (suc j)) (λ j. k (suc j)) (λ j y e q. each (suc j) y e q) in
      elim (cases_Bool (p x)) [
        | inl pass ↦ rw pass (let first = each 0 x refl pass in omega arith)
        | inr fail ↦ rw fail (omega arith)
      ]

  -- where each line that counts in one counts in the other, the other is positive where the one is
  pub weighed-some : (xs : List X) (f h : ℕ → ℕ) → ((j : ℕ) (x : X) → slice_get xs j ≡ Some x → p x ≡ true → 1 ≤ f j → 1 ≤ h j) → 1 ≤ weighed p xs f → 1 ≤ weighed p xs h
  weighed-some [] f h each some = some
  weighed-some (x ∷ xs) f h each some =
      let rest = weighed-some xs (λ j. f (suc j)) (λ j. h (suc j)) (λ j y e q. each (suc j) y e q) in
      elim (cases_Bool (p x)) [
        | inl pass ↦
            let first = each 0 x refl pass in
            let before = rw pass at some in
            rw pass (elim (cases_lt 0 (f 0)) [
              | inl here ↦ omega arith
              | inr later ↦ (let none = rest (omega arith) in omega arith)
            ])
        | inr fail ↦ (let before : 1 ≤ 0 + weighed p xs (λ j. f (suc j)) = rw fail at some in let later = rest (omega arith) in rw fail (omega arith))
      ]

  sum-cond : (k : ℕ) (xs : List X) → sum_by (λ x. cond (p x) k 0) xs ≡ k * count_by p xs
  sum-cond k [] = omega arith
  sum-cond k (x ∷ xs) =
      let rest = sum-cond k xs in
      rw (sum_by-cons (λ y. cond (p y) k 0) x xs, sum_by-cons (λ y. weight (p y)) x xs, rest)
      (elim (cases_Bool (p x)) [
        | inl pass ↦ rw pass (omega arith)
        | inr fail ↦ rw fail (omega arith)
      ])

-- Where each line passes one of several tests exactly where it passes a further one, and never two, the sums of the tests add up to the further one's.
pub weighed-parts : {X Y : Type 0} (p : Y → X → Bool) (q : X → Bool) (ys : List Y) (xs : List X) (f : ℕ → ℕ) → All (λ x. count_by (λ y. p y x) ys ≡ weight (q x)) xs → sum_by (λ y. weighed (p y) xs f) ys ≡ weighed q xs f
weighed-parts p q ys [] f each = sum_by-zero ys
weighed-parts p q ys (x ∷ xs) f each =
    let rest = weighed-parts p q ys xs (λ j. f (suc j)) (All-tail (λ z. count_by (λ y. p y z) ys ≡ weight (q z)) x xs each) in
    let here = All-head (λ z. count_by (λ y. p y z) ys ≡ weight (q z)) x xs each in
    let first = sum-cond (λ y. p y x) (f 0) ys in
    rw (sum_by-add (λ y. cond (p y x) (f 0) 0) (λ y. weighed (p y) xs (λ j. f (suc j))) ys, rest, first, here)
    (elim (cases_Bool (q x)) [
      | inl pass ↦ rw pass (omega arith)
      | inr fail ↦ rw fail (omega arith)
    ])

-- where each is at least 1 and the sum is at most the length, each is 1
pub each-one : {X : Type 0} (f : X → ℕ) (xs : List X) → All (λ x. 1 ≤ f x) xs → sum_by f xs ≤ length xs → All (λ x. f x ≡ 1) xs
each-one f [] low high = All-nil (λ x. f x ≡ 1)
each-one f (x ∷ xs) low high =
    let rest = All-tail (λ y. 1 ≤ f y) x xs low in
    let first = All-head (λ y. 1 ≤ f y) x xs low in
    let total = sum_by-cons f x xs in
    let many = length-le-sum_by f xs rest in
    All-cons (λ y. f y ≡ 1) x xs (omega arith) (each-one f xs rest (omega arith))

-- what holds of each item with a number holds of all
pub All-from_at : {X : Type 0} (P : X → Type 0) (xs : List X) → ((j : ℕ) (x : X) → slice_get xs j ≡ Some x → P x) → All P xs
All-from_at P [] h = All-nil P
All-from_at P (x ∷ xs) h = All-cons P x xs (h 0 x refl) (All-from_at P xs (λ j y e. h (suc j) y e))

-- what one line adds is within the sum
pub weighed-has : {X : Type 0} (p : X → Bool) (xs : List X) (f : ℕ → ℕ) (j : ℕ) (x : X) → slice_get xs j ≡ Some x → p x ≡ true → f j ≤ weighed p xs f
weighed-has p [] f j x e pass = absurd cc
weighed-has p (y ∷ ys) f zero x e pass =
    let same : y ≡ x = cc in
    rw (same, pass) (omega arith)
weighed-has p (y ∷ ys) f (suc j) x e pass = let rest = weighed-has p ys (λ i. f (suc i)) j x e pass in omega arith
