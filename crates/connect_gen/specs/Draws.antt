-- Draws from a number, by a linear congruential generator on 64 bits.
use Rattle.std.specs.Prelude.{ℕ, zero, suc, ◌+◌, ◌*◌, ◌/◌, ◌%◌, ◌^◌}

-- the state after this one
unfoldable pub next_state : ℕ → ℕ
next_state s = (s * 6364136223846793005 + 1442695040888963407) % 2 ^ 64

-- the state after so many draws from the number
unfoldable pub state : ℕ → ℕ → ℕ
state number zero = number
state number (suc k) = next_state (state number k)

-- what is drawn below a bound: the state's upper bits, since its lowest ones have short periods
unfoldable pub drawn : ℕ → ℕ → ℕ
drawn s bound = s / 2 ^ 33 % bound

-- Draw k, counted from 1, below a bound. The state is replaced before it is looked at.
abbrev pub draw : ℕ → ℕ → ℕ → ℕ
draw number k bound = drawn (state number k) bound
