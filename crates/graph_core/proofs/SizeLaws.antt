-- Counts over lists, and sizes of sides.
use Rattle.std.proofs.Common.{ℕ, zero, suc, ◌≡◌, ◌+◌, ◌<◌, ◌≤◌, Bool, true, false, ◌&&◌, cond, ◌⊎◌, inl, inr, List, [], ◌∷◌, length, count_by, replicate, refl, ap, sym, ◌∙◌, arith, ⊎_elim, zero-add}
use Rattle.std.specs.List.{filter, range_with_len, sum_by}
use Rattle.std.proofs.lemmas.Bool.{cases_eq}
use Rattle.std.proofs.lemmas.List.Sums.{sum_by-cons}
use Rattle.graph_core.proofs.Counting.{weight, weight_within}
use Rattle.graph_core.specs.Side.{has, size}

pub weight_true : (b : Bool) → b ≡ true → weight b ≡ 1
weight_true b e = ap weight e

pub weight_false : (b : Bool) → b ≡ false → weight b ≡ 0
weight_false b e = ap weight e

pub weight_most : (b : Bool) → weight b ≤ 1
weight_most true = omega arith
weight_most false = omega arith

module _ {X : Type 0} where
  pub count-cons : (p : X → Bool) (x : X) (xs : List X) → count_by p (x ∷ xs) ≡ weight (p x) + count_by p xs
  count-cons p x xs = sum_by-cons (λ y. cond (p y) 1 0) x xs

  pub count-le_three : (p q r s : X → Bool) → ((x : X) → weight (p x) ≤ weight (q x) + weight (r x) + weight (s x)) → (xs : List X) → count_by p xs ≤ count_by q xs + count_by r xs + count_by s xs
  count-le_three p q r s h [] = omega arith
  count-le_three p q r s h (x ∷ xs) = omega (arith, count-cons p x xs, count-cons q x xs, count-cons r x xs, count-cons s x xs, h x, count-le_three p q r s h xs)

  pub count-le_both : (p q r : X → Bool) → ((x : X) → weight (p x) + weight (q x) ≤ weight (r x)) → (xs : List X) → count_by p xs + count_by q xs ≤ count_by r xs
  count-le_both p q r h [] = omega arith
  count-le_both p q r h (x ∷ xs) = omega (arith, count-cons p x xs, count-cons q x xs, count-cons r x xs, h x, count-le_both p q r h xs)

  pub count-none : (p : X → Bool) → ((x : X) → p x ≡ false) → (xs : List X) → count_by p xs ≡ 0
  count-none p h [] = refl
  count-none p h (x ∷ xs) = omega (arith, count-cons p x xs, weight_false (p x) (h x), count-none p h xs)

  -- a count over a filtered list
  pub count-filter : (p f : X → Bool) (xs : List X) → count_by p (filter f xs) ≡ count_by (λ x. f x && p x) xs
  count-filter p f [] = refl
  count-filter p f (x ∷ xs) =
      rw (count-cons (λ y. f y && p y) x xs)
      (elim (f x) as (λ b. count_by p (cond b (x ∷ filter f xs) (filter f xs)) ≡ weight (b && p x) + count_by (λ y. f y && p y) xs) [
        | true ↦ count-cons p x (filter f xs) ∙ ap (λ k. weight (p x) + k) (count-filter p f xs)
        | false ↦ count-filter p f xs ∙ sym (zero-add (count_by (λ y. f y && p y) xs))
      ])

-- a sum with terms at one place only, of at most one
pub sum_one : (f : ℕ → ℕ) (c a n : ℕ) → ((r : ℕ) → f r ≤ 1) → ((r : ℕ) → (r ≡ c → ⊥) → f r ≡ 0) → sum_by f (range_with_len a n) ≤ 1
sum_one f c a zero most other = omega arith
sum_one f c a (suc n) most other =
    ⊎_elim
    (λ e. let rest = sum_none (a + 1) n (omega arith) in omega (arith, sum_by-cons f a (range_with_len (a + 1) n), most a))
    (λ ne. omega (arith, sum_by-cons f a (range_with_len (a + 1) n), other a ne, sum_one f c (a + 1) n most other))
    (cases_eq a c)
  where
    sum_none : (b k : ℕ) → c < b → sum_by f (range_with_len b k) ≡ 0
    sum_none b zero l = refl
    sum_none b (suc k) l = omega (arith, sum_by-cons f b (range_with_len (b + 1) k), other b (λ e. absurd (omega arith)), sum_none (b + 1) k (omega arith))

-- how many numbers below n pass
abbrev pub count_below : ℕ → (ℕ → Bool) → ℕ
count_below zero p = 0
count_below (suc n) p = weight (p n) + count_below n p

count_no_more : (n : ℕ) (p q : ℕ → Bool) → ((v : ℕ) → q v ≡ true → p v ≡ true) → count_below n q ≤ count_below n p
count_no_more zero p q h = omega arith
count_no_more (suc n) p q h = omega (arith, weight_within (q n) (p n) (h n), count_no_more n p q h)

-- where one no longer passes, and no other begins to, they are fewer
pub count_fewer : (n : ℕ) (p q : ℕ → Bool) → ((v : ℕ) → q v ≡ true → p v ≡ true) → (v : ℕ) → v < n → p v ≡ true → q v ≡ false → count_below n q < count_below n p
count_fewer zero p q h v l pass fail = absurd (omega arith)
count_fewer (suc n) p q h v l pass fail =
    elim (cases_eq v n) [
      | inl e ↦ (let now : weight (p n) ≡ 1 = ap (λ i. weight (p i)) (sym e) ∙ ap weight pass in let then' : weight (q n) ≡ 0 = ap (λ i. weight (q i)) (sym e) ∙ ap weight fail in omega (arith, count_no_more n p q h))
      | inr ne ↦ omega (arith, weight_within (q n) (p n) (h n), count_fewer n p q h v (omega arith) pass fail)
    ]

-- sizes of sides that make up one another
pub size-le_sum : (X Y Z : List Bool) → length Y ≡ length X → length Z ≡ length X → ((k : ℕ) → weight (has X k) ≤ weight (has Y k) + weight (has Z k)) → size X ≤ size Y + size Z
size-le_sum [] Y Z ey ez h = omega arith
size-le_sum (x ∷ X) [] Z ey ez h = absurd (omega arith)
size-le_sum (x ∷ X) (y ∷ Y) [] ey ez h = absurd (omega arith)
size-le_sum (x ∷ X) (y ∷ Y) (z ∷ Z) ey ez h =
    let first : weight x ≤ weight y + weight z = h 0 in
    let rest : size X ≤ size Y + size Z = size-le_sum X Y Z (omega arith) (omega arith) (λ k. h (suc k)) in
    omega (arith, count-cons (λ b. b) x X, count-cons (λ b. b) y Y, count-cons (λ b. b) z Z)

pub size-ge_sum : (X Y Z : List Bool) → length Y ≡ length X → length Z ≡ length X → ((k : ℕ) → weight (has Y k) + weight (has Z k) ≤ weight (has X k)) → size Y + size Z ≤ size X
size-ge_sum [] [] [] ey ez h = omega arith
size-ge_sum [] (y ∷ Y) Z ey ez h = absurd (omega arith)
size-ge_sum [] [] (z ∷ Z) ey ez h = absurd (omega arith)
size-ge_sum (x ∷ X) [] Z ey ez h = absurd (omega arith)
size-ge_sum (x ∷ X) (y ∷ Y) [] ey ez h = absurd (omega arith)
size-ge_sum (x ∷ X) (y ∷ Y) (z ∷ Z) ey ez h =
    let first : weight y + weight z ≤ weight x = h 0 in
    let rest : size Y + size Z ≤ size X = size-ge_sum X Y Z (omega arith) (omega arith) (λ k. h (suc k)) in
    omega (arith, count-cons (λ b. b) x X, count-cons (λ b. b) y Y, count-cons (λ b. b) z Z)

pub size-none : (X : List Bool) → ((k : ℕ) → has X k ≡ false) → size X ≡ 0
size-none [] h = refl
size-none (x ∷ X) h = omega (arith, count-cons (λ b. b) x X, weight_false x (h 0), size-none X (λ k. h (suc k)))

pub size-all : (n : ℕ) → size (replicate n true) ≡ n
size-all zero = refl
size-all (suc n) = omega (arith, count-cons (λ b. b) true (replicate n true), size-all n)

-- a side has a member or none
pub some_or_none : (X : List Bool) → ((v : ℕ) × (has X v ≡ true)) ⊎ ((v : ℕ) → has X v ≡ false)
some_or_none [] = inr (λ v. refl)
some_or_none (true ∷ X) = inl (0, refl)
some_or_none (false ∷ X) =
    ⊎_elim (λ w. inl (suc w.0, w.1)) (λ none. inr (rest none)) (some_or_none X)
  where
    rest : ((v : ℕ) → has X v ≡ false) → (v : ℕ) → has (false ∷ X) v ≡ false
    rest none zero = refl
    rest none (suc v) = none v
