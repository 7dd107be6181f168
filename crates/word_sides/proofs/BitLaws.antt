-- Laws of the bits of a word.
use Rattle.std.proofs.Common.{ℕ, ◌≡◌, ◌<◌, ◌≤◌, ◌+◌, ◌-◌, ◌*◌, ◌%◌, ◌^◌, min, max, ap, sym, ◌∙◌, false, not, cond, ◌&&◌, ◌||◌, eqb, ltb, inl, inr, arith}
use Rattle.std.specs.Int.{bit_at}
use Rattle.std.specs.Prelude.{bit_and, bit_or, bit_xor}
use Rattle.std.proofs.lemmas.Bool.{cases_lt, lt-ltb, le-ltb}
use Rattle.std.proofs.lemmas.Bool.Decides.{nat_tests}
use Rattle.std.proofs.lemmas.Nat.{one_shl}
use Rattle.std.proofs.lemmas.Nat.Bits.{bit_at_and, bit_at_or, bit_at_xor, bit_at-lt, bit_at-zero, bit_at_ones, bit_at_ones_above, same_from_bits_below}
use Rattle.word_sides.specs.Words.{bit, without}

one-min : (x y : ℕ) → x < 2 → y < 2 → eqb (min x y) 1 ≡ (eqb x 1 && eqb y 1)
one-min x y lx ly = grind (arith, nat_tests)

one-max : (x y : ℕ) → x < 2 → y < 2 → eqb (max x y) 1 ≡ (eqb x 1 || eqb y 1)
one-max x y lx ly = grind (arith, nat_tests)

one-less : (x y : ℕ) → x < 2 → y < 2 → eqb ((x + min x y) % 2) 1 ≡ (eqb x 1 && not (eqb y 1))
one-less x y lx ly = grind (arith, nat_tests)

one-turned : (x y : ℕ) → x < 2 → y < 2 → eqb ((x + y) % 2) 1 ≡ cond (eqb y 1) (not (eqb x 1)) (eqb x 1)
one-turned x y lx ly = grind (arith, nat_tests)

one-same : (x y : ℕ) → x < 2 → y < 2 → eqb x 1 ≡ eqb y 1 → x ≡ y
one-same x y lx ly e = grind (arith, nat_tests)

pub bit-zero : (i : ℕ) → bit 0 i ≡ false
bit-zero i = ap (λ x. eqb x 1) (bit_at-zero i)

pub bit-and : (a b i : ℕ) → bit (bit_and a b) i ≡ (bit a i && bit b i)
bit-and a b i = ap (λ x. eqb x 1) (bit_at_and a b i) ∙ one-min (bit_at a i) (bit_at b i) (bit_at-lt a i) (bit_at-lt b i)

pub bit-or : (a b i : ℕ) → bit (bit_or a b) i ≡ (bit a i || bit b i)
bit-or a b i = ap (λ x. eqb x 1) (bit_at_or a b i) ∙ one-max (bit_at a i) (bit_at b i) (bit_at-lt a i) (bit_at-lt b i)

pub bit-xor : (a b i : ℕ) → bit (bit_xor a b) i ≡ cond (bit b i) (not (bit a i)) (bit a i)
bit-xor a b i = ap (λ x. eqb x 1) (bit_at_xor a b i) ∙ one-turned (bit_at a i) (bit_at b i) (bit_at-lt a i) (bit_at-lt b i)

pub bit-without : (a b i : ℕ) → bit (without a b) i ≡ (bit a i && not (bit b i))
bit-without a b i = ap (λ x. eqb x 1) (bit_at_xor a (bit_and a b) i ∙ ap (λ x. (bit_at a i + x) % 2) (bit_at_and a b i)) ∙ one-less (bit_at a i) (bit_at b i) (bit_at-lt a i) (bit_at-lt b i)

-- a word is made by its bits
pub same_bits : (k a b : ℕ) → a < 2 ^ k → b < 2 ^ k → ((i : ℕ) → i < k → bit a i ≡ bit b i) → a ≡ b
same_bits k a b la lb h = same_from_bits_below k a b la lb (λ i l. one-same (bit_at a i) (bit_at b i) (bit_at-lt a i) (bit_at-lt b i) (h i l))

-- ---- a run of k bits that are set

pub bit-ones : (k i : ℕ) → bit (2 ^ k - 1) i ≡ ltb i k
bit-ones k i =
    elim (cases_lt i k) [
      | inl l ↦ ap (λ x. eqb x 1) (bit_at_ones k i l) ∙ sym (lt-ltb i k l)
      | inr l ↦ ap (λ x. eqb x 1) (bit_at_ones_above k i l) ∙ sym (le-ltb i k l)
    ]

pub bit-low : (k i : ℕ) → k < 64 → bit (1 * 2 ^ k % 2 ^ 64 - 1) i ≡ ltb i k
bit-low k i l = ap (λ x. bit (x - 1) i) (one_shl k 64 l) ∙ bit-ones k i

pub ltb-same : (a b c d : ℕ) → (a < b → c < d) → (c < d → a < b) → ltb a b ≡ ltb c d
ltb-same a b c d to from =
    elim (cases_lt a b) [
      | inl l ↦ lt-ltb a b l ∙ sym (lt-ltb c d (to l))
      | inr l ↦ le-ltb a b l ∙ sym (le-ltb c d (not-lt l))
    ]
  where
    not-lt : b ≤ a → d ≤ c
    not-lt l =
        elim (cases_lt c d) [
          | inl k ↦ absurd (omega (arith, from k))
          | inr k ↦ k
        ]
