-- The limit of a list of truth values.
use Rattle.std.specs.Prelude.{ℕ}

-- the most values of a list
abbrev pub most_values : ℕ
most_values = 8192
