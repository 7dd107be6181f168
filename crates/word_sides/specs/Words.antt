-- Truth values in words of 64 bits.
use Rattle.std.specs.Prelude.{◌≡◌, ℕ, ◌+◌, ◌/◌, ◌%◌, ◌≤◌, max, Bool, false, List, map, length, slice_index_or, eqb, bit_and, bit_xor, count_by}
use Rattle.std.specs.Int.{bit_at}
use Rattle.std.specs.List.{range_with_len}
use Rattle.word_sides.specs.Limits.{most_values}

-- whether bit b of the word is set
abbrev pub bit : ℕ → ℕ → Bool
bit w b = eqb (bit_at w b) 1

-- truth value i in the words
abbrev pub value : List ℕ → ℕ → Bool
value ws i = bit (slice_index_or ws (i / 64) 0) (i % 64)

-- the first n
abbrev pub values : ℕ → List ℕ → List Bool
values n ws = map (value ws) (range_with_len 0 n)

-- how many words n values stand in: two at least, which short lists hold in themselves
abbrev pub room : ℕ → ℕ
room n = max 2 ((n + 63) / 64)

-- the words are as many as n values stand in, and no bit past the values is set
pub record IsClean (n : ℕ) (ws : List ℕ) : Type 0 where
  pub few : n ≤ most_values
  pub long : length ws ≡ room n
  pub past : (i : ℕ) → n ≤ i → value ws i ≡ false

-- the bits of the one word that aren't in the other
abbrev pub without : ℕ → ℕ → ℕ
without a b = bit_xor a (bit_and a b)

-- how many of the first n are true
abbrev pub ones_in : ℕ → List ℕ → ℕ
ones_in n ws = count_by (value ws) (range_with_len 0 n)
