-- How many bits of words are set.
use Rattle.std.proofs.Common.{ℕ, zero, suc, ◌≡◌, ◌<◌, ◌≤◌, ◌+◌, ◌-◌, ◌*◌, ◌^◌, refl, ap, sym, subst, ◌∙◌, Bool, true, false, cond, List, [], ◌∷◌, length, map, get_or, count_by, eqb, arith, Fits}
use Rattle.std.specs.Int.{w64, bit_at}
use Rattle.std.specs.Prelude.{count_ones}
use Rattle.std.specs.List.{range_with_len}
use Rattle.std.proofs.lemmas.List.FromFn.{length-range_with_len, length-map-range_with_len, get_or-map-range_with_len}
use Rattle.std.proofs.lemmas.List.Sums.{sum_by-cons, count_by-le-length}
use Rattle.std.proofs.lemmas.Nat.Bits.{bit_at-lt, same_from_bits_below}
use Rattle.std.proofs.lemmas.Simd.{mask_l-lt, bit_mask_l, ones-mask_l}
use Rattle.std.proofs.lemmas.Bool.Decides.{nat_tests}
use Rattle.word_sides.specs.Words.{bit, value, values, IsClean, ones_in}
use Rattle.word_sides.proofs.WordLaws.{value-word}
use lib.Lanes.{mask_l}

abbrev weight : Bool → ℕ
weight b = cond b 1 0

count-cons : {X : Type 0} (p : X → Bool) (x : X) (xs : List X) → count_by p (x ∷ xs) ≡ weight (p x) + count_by p xs
count-cons p x xs = sum_by-cons (λ y. weight (p y)) x xs

-- ---- counts over runs of numbers

count-split : (p : ℕ → Bool) (a m n : ℕ) → count_by p (range_with_len a (m + n)) ≡ count_by p (range_with_len a m) + count_by p (range_with_len (a + m) n)
count-split p a zero n =
    let all : 0 + n ≡ n = omega arith in
    let here : a + 0 ≡ a = omega arith in
    omega (arith, ap (λ k. count_by p (range_with_len a k)) all, ap (λ b. count_by p (range_with_len b n)) here)
count-split p a (suc m) n =
    let more : suc m + n ≡ suc (m + n) = omega arith in
    let next : a + 1 + m ≡ a + suc m = omega arith in
    omega (arith, ap (λ k. count_by p (range_with_len a k)) more, count-cons p a (range_with_len (a + 1) (m + n)), count-cons p a (range_with_len (a + 1) m), count-split p (a + 1) m n, ap (λ b. count_by p (range_with_len b n)) next)

count-same : (p q : ℕ → Bool) (a b n : ℕ) → ((i : ℕ) → i < n → p (a + i) ≡ q (b + i)) → count_by p (range_with_len a n) ≡ count_by q (range_with_len b n)
count-same p q a b zero h = refl
count-same p q a b (suc n) h =
    omega (arith, count-cons p a (range_with_len (a + 1) n), count-cons q b (range_with_len (b + 1) n), here, count-same p q (a + 1) (b + 1) n rest)
  where
    here : weight (p a) ≡ weight (q b)
    here =
        let left : a + 0 ≡ a = omega arith in
        let right : b + 0 ≡ b = omega arith in
        ap weight (ap p (sym left) ∙ h 0 (omega arith) ∙ ap q right)

    rest : (i : ℕ) → i < n → p (a + 1 + i) ≡ q (b + 1 + i)
    rest i l =
        let left : a + 1 + i ≡ a + suc i = omega arith in
        let right : b + 1 + i ≡ b + suc i = omega arith in
        ap p left ∙ h (suc i) (omega arith) ∙ ap q (sym right)

count-none : (p : ℕ → Bool) (a n : ℕ) → ((i : ℕ) → a ≤ i → p i ≡ false) → count_by p (range_with_len a n) ≡ 0
count-none p a zero h = refl
count-none p a (suc n) h =
    let here : weight (p a) ≡ 0 = ap weight (h a (omega arith)) in
    omega (arith, count-cons p a (range_with_len (a + 1) n), count-none p (a + 1) n (λ i l. h i (omega arith)))

count-map : {X Y : Type 0} (p : Y → Bool) (f : X → Y) (xs : List X) → count_by p (map f xs) ≡ count_by (λ x. p (f x)) xs
count-map p f [] = refl
count-map p f (x ∷ xs) = omega (arith, count-cons p (f x) (map f xs), count-cons (λ y. p (f y)) x xs, count-map p f xs)

-- ---- the bits of a word

weight-digit : (x : ℕ) → x < 2 → weight (eqb x 1) ≡ x
weight-digit x l = grind (arith, nat_tests)

ones-bits : (k w : ℕ) → w < 2 ^ k → count_by (bit w) (range_with_len 0 k) ≡ count_ones w
ones-bits k w l =
    let made : mask_l (map (bit w) (range_with_len 0 k)) ≡ w =
    same_from_bits_below k (mask_l (map (bit w) (range_with_len 0 k))) w
    (subst (λ m. mask_l (map (bit w) (range_with_len 0 k)) < 2 ^ m) (length-map-range_with_len (bit w) 0 k) (mask_l-lt (map (bit w) (range_with_len 0 k)))) l
    (λ i li. bit_mask_l (map (bit w) (range_with_len 0 k)) i ∙ ap weight (get_or-map-range_with_len (bit w) 0 k i i false li (omega arith)) ∙ weight-digit (bit_at w i) (bit_at-lt w i)) in
    sym (ones-mask_l (bit w) (range_with_len 0 k)) ∙ ap count_ones made

-- ---- the values of words

pub ones-more : (ws : List ℕ) (j : ℕ) → Fits w64 (get_or ws j 0) → ones_in (64 * (j + 1)) ws ≡ ones_in (64 * j) ws + count_ones (get_or ws j 0)
ones-more ws j fits =
    let next : 64 * (j + 1) ≡ 64 * j + 64 = omega arith in
    let here : count_by (value ws) (range_with_len (0 + 64 * j) 64) ≡ count_ones (get_or ws j 0) = count-same (value ws) (bit (get_or ws j 0)) (0 + 64 * j) 0 64 (at j) ∙ ones-bits 64 (get_or ws j 0) fits.fits in
    ap (λ m. ones_in m ws) next ∙ count-split (value ws) 0 (64 * j) 64 ∙ ap (λ m. ones_in (64 * j) ws + m) here
  where
    at : (j i : ℕ) → i < 64 → value ws (0 + 64 * j + i) ≡ bit (get_or ws j 0) (0 + i)
    at j i l =
        let left : 0 + 64 * j + i ≡ 64 * j + i = omega arith in
        let right : 0 + i ≡ i = omega arith in
        ap (value ws) left ∙ value-word ws j i l ∙ ap (bit (get_or ws j 0)) (sym right)

-- no bit past the values is set, so that all of the words' are the values'
pub ones-all : (n : ℕ) (ws : List ℕ) → IsClean n ws → ones_in (64 * length ws) ws ≡ count_by (λ b. b) (values n ws)
ones-all n ws clean =
    let parts : 64 * length ws ≡ n + (64 * length ws - n) = omega (arith, clean.long) in
    let split : ones_in (64 * length ws) ws ≡ ones_in n ws + count_by (value ws) (range_with_len (0 + n) (64 * length ws - n)) = ap (λ m. ones_in m ws) parts ∙ count-split (value ws) 0 n (64 * length ws - n) in
    let past : count_by (value ws) (range_with_len (0 + n) (64 * length ws - n)) ≡ 0 = count-none (value ws) (0 + n) (64 * length ws - n) (λ i l. clean.past i (omega arith)) in
    let all : ones_in (64 * length ws) ws ≡ ones_in n ws = omega arith in
    all ∙ sym (count-map (λ b. b) (value ws) (range_with_len 0 n))

pub ones-le : (n : ℕ) (ws : List ℕ) → ones_in n ws ≤ n
ones-le n ws = omega (arith, count_by-le-length (value ws) (range_with_len 0 n), length-range_with_len 0 n)

-- ---- all values are true where as many are as there are

pub all_counted : (X : List Bool) → count_by (λ b. b) X ≡ length X → (i : ℕ) → i < length X → get_or X i false ≡ true
all_counted [] e i l = absurd (omega arith)
all_counted (false ∷ X) e i l = absurd (omega (arith, count-cons (λ b. b) false X, count_by-le-length (λ b. b) X))
all_counted (true ∷ X) e zero l = refl
all_counted (true ∷ X) e (suc i) l = all_counted X (omega (arith, count-cons (λ b. b) true X)) i (omega arith)

pub count-all : (X : List Bool) → ((i : ℕ) → i < length X → get_or X i false ≡ true) → count_by (λ b. b) X ≡ length X
count-all [] h = refl
count-all (x ∷ X) h =
    let here : weight x ≡ 1 = ap weight (h 0 (omega arith)) in
    omega (arith, count-cons (λ b. b) x X, count-all X (λ i l. h (suc i) (omega arith)))
