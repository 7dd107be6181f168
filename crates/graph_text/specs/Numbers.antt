-- Numbers of nodes and costs of arcs, by their words.
use Rattle.std.specs.Prelude.{ℕ, Bool, true, false, ◌&&◌, nat_le, List}
use Rattle.std.specs.Fmt.{decimal}
use Rattle.std.specs.Str.{bytes_eq}
use Rattle.std.specs.Str.Parse.{digits_value}

-- the number that the digits of a word write
abbrev pub value : List ℕ → ℕ
value word = digits_value 10 word

-- whether the word is a decimal, without sign or leading zeros, of a number that is at most so great
abbrev pub is_number : ℕ → List ℕ → Bool
is_number most word = bytes_eq word (decimal (value word)) && nat_le (value word) most

-- what an arc costs: 1 where it is fixed
abbrev pub arc_cost : Bool → List ℕ → ℕ
arc_cost true word = 1
arc_cost false word = value word
