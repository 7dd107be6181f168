-- How many elements a set has.
use Rattle.std.proofs.Common.{ℕ, zero, suc, ◌≡◌, ◌+◌, ◌<◌, ◌≤◌, Bool, true, false, cond, List, [], ◌∷◌, length, get_or, set, sym, refl, ap, ◌∙◌, arith, ⊎_elim}
use Rattle.std.proofs.lemmas.Bool.{cases_lt, cases_eq, both_ways}
use Rattle.std.proofs.lemmas.List.{length-set, get_or-set_same, get_or-set_other, get_or_past}
use Rattle.std.proofs.lemmas.List.Sums.{sum_by-cons, sum_by-set}
use Rattle.std.proofs.lemmas.List.FromFn.{fill_by_all}
use Rattle.graph_core.specs.Side.{has, size}
use Rattle.graph_core.proofs.Counting.{weight}
use Rattle.matroid_union.specs.Sets.{plus, minus, swap}
use Rattle.graph_core.specs.Sets.{set_of}
use Rattle.graph_core.proofs.SetLaws.{has_of, length_of}
use Rattle.matroid_union.proofs.Members.{plus-old, plus-new, plus-cases, minus-in, minus-parts, minus-out, minus-gone, plus-other}

size-cons : (b : Bool) (X : List Bool) → size (b ∷ X) ≡ cond b 1 0 + size X
size-cons b X = sum_by-cons (λ c. cond c 1 0) b X

weight-le : (a b : Bool) → (a ≡ true → b ≡ true) → cond a 1 0 ≤ cond b 1 0
weight-le false b h = omega arith
weight-le true true h = omega arith
weight-le true false h = absurd (both_ways false refl (h refl))

weight-back : (a b : Bool) → cond b 1 0 ≤ cond a 1 0 → b ≡ true → a ≡ true
weight-back true b l e = refl
weight-back false true l e = absurd (omega arith)
weight-back false false l e = e

-- a subset has no more members
pub size-le : (X Y : List Bool) → length X ≡ length Y → ((k : ℕ) → has X k ≡ true → has Y k ≡ true) → size X ≤ size Y
size-le [] Y e h = omega arith
size-le (a ∷ X) [] e h = absurd (omega arith)
size-le (a ∷ X) (b ∷ Y) e h =
    let rest : size X ≤ size Y = size-le X Y (omega arith) (λ k. h (suc k)) in
    let first : cond a 1 0 ≤ cond b 1 0 = weight-le a b (h 0) in
    let x = size-cons a X in
    let y = size-cons b Y in
    omega arith

-- a subset with no fewer members has them all
pub size-full : (X Y : List Bool) → length X ≡ length Y → ((k : ℕ) → has X k ≡ true → has Y k ≡ true) → size Y ≤ size X → (k : ℕ) → has Y k ≡ true → has X k ≡ true
size-full [] [] e h l k p = p
size-full [] (b ∷ Y) e h l k p = absurd (omega arith)
size-full (a ∷ X) [] e h l k p = absurd (omega arith)
size-full (a ∷ X) (b ∷ Y) e h l zero p =
    let rest : size X ≤ size Y = size-le X Y (omega arith) (λ k. h (suc k)) in
    let x = size-cons a X in
    let y = size-cons b Y in
    weight-back a b (omega arith) p
size-full (a ∷ X) (b ∷ Y) e h l (suc k) p =
    let first : cond a 1 0 ≤ cond b 1 0 = weight-le a b (h 0) in
    let x = size-cons a X in
    let y = size-cons b Y in
    size-full X Y (omega arith) (λ k. h (suc k)) (omega arith) k p

module _ (n : ℕ) (f g : ℕ → Bool) where
  has_sub : ((k : ℕ) → k < n → f k ≡ true → g k ≡ true) → (k : ℕ) → has (set_of n f) k ≡ true → has (set_of n g) k ≡ true
  has_sub h k p =
      ⊎_elim (λ l. has_of n g k l ∙ h k l (sym (has_of n f k l) ∙ p))
      (λ l. absurd (both_ways (has (set_of n f) k) (get_or_past (set_of n f) k false (rw (length_of n f) l)) p))
      (cases_lt k n)

  pub count-le : ((k : ℕ) → k < n → f k ≡ true → g k ≡ true) → size (set_of n f) ≤ size (set_of n g)
  count-le h = size-le (set_of n f) (set_of n g) (length_of n f ∙ sym (length_of n g)) (has_sub h)

  pub count-full : ((k : ℕ) → k < n → f k ≡ true → g k ≡ true) → size (set_of n g) ≤ size (set_of n f) → (k : ℕ) → k < n → g k ≡ true → f k ≡ true
  count-full h m k l p = sym (has_of n f k l) ∙ size-full (set_of n f) (set_of n g) (length_of n f ∙ sym (length_of n g)) (has_sub h) m k (has_of n g k l ∙ p)

pub set-plus : (n : ℕ) (f : ℕ → Bool) (x : ℕ) → x < n → set (set_of n f) x true ≡ set_of n (plus f x)
set-plus n f x l =
    fill_by_all (plus f x) (set (set_of n f) x true) n false (length-set (set_of n f) x true ∙ length_of n f)
    (λ k m. ⊎_elim (λ e. let at : get_or (set (set_of n f) x true) x false ≡ true = get_or-set_same (set_of n f) x true false (rw (length_of n f) l) in rw e (at ∙ sym (plus-new f x x refl)))
    (λ ne. get_or-set_other (set_of n f) x k true false ne ∙ has_of n f k m ∙ sym (plus-other f x k ne)) (cases_eq k x))

-- one member more
pub count-plus : (n : ℕ) (f : ℕ → Bool) (x : ℕ) → x < n → f x ≡ false → size (set_of n (plus f x)) ≡ size (set_of n f) + 1
count-plus n f x l h =
    let was : has (set_of n f) x ≡ false = has_of n f x l ∙ h in
    let both = sum_by-set (λ b. cond b 1 0) (set_of n f) x true false (rw (length_of n f) l) in
    let zero_then : weight (has (set_of n f) x) ≡ 0 = ap weight was in
    ap size (sym (set-plus n f x l)) ∙ omega arith

pub count-minus : (n : ℕ) (f : ℕ → Bool) (y : ℕ) → y < n → f y ≡ true → size (set_of n (minus f y)) + 1 ≡ size (set_of n f)
count-minus n f y l h =
    let up = count-plus n (minus f y) y l (minus-gone f y) in
    let le : size (set_of n (plus (minus f y) y)) ≤ size (set_of n f) =
    count-le n (plus (minus f y) y) f (λ k m p. ⊎_elim (λ a. (minus-parts f y k a).0) (λ e. rw e h) (plus-cases (minus f y) y k p)) in
    let ge : size (set_of n f) ≤ size (set_of n (plus (minus f y) y)) =
    count-le n f (plus (minus f y) y) (λ k m p. ⊎_elim (λ e. plus-new (minus f y) y k e) (λ ne. plus-old (minus f y) y k (minus-in f y k p ne)) (cases_eq k y)) in
    omega arith

-- as many
pub count-swap : (n : ℕ) (f : ℕ → Bool) (y x : ℕ) → y < n → x < n → f y ≡ true → f x ≡ false → size (set_of n (swap f y x)) ≡ size (set_of n f)
count-swap n f y x ly lx hy hx =
    let down = count-minus n f y ly hy in
    let up = count-plus n (minus f y) x lx (minus-out f y x hx) in
    omega arith

-- sets with the same members are the same
pub same_marks : (X Y : List Bool) → length X ≡ length Y → ((k : ℕ) → k < length Y → has X k ≡ has Y k) → X ≡ Y
same_marks [] [] e h = refl
same_marks [] (b ∷ Y) e h = absurd (omega arith)
same_marks (a ∷ X) [] e h = absurd (omega arith)
same_marks (a ∷ X) (b ∷ Y) e h =
    let first : a ≡ b = h 0 (omega arith) in
    let rest = same_marks X Y (omega arith) (λ k l. h (suc k) (omega arith)) in
    cc
