-- Sets of the numbers below n, by a test.
use Rattle.std.specs.Prelude.{ℕ, Bool, List, map}
use Rattle.std.specs.List.{range_with_len}

-- the numbers below n that pass
abbrev pub set_of : ℕ → (ℕ → Bool) → List Bool
set_of n f = map f (range_with_len 0 n)
