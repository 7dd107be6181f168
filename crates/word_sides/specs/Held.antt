-- How a list of truth values is held.
use Rattle.std.specs.Prelude.{ℕ, List}
use Rattle.word_sides.specs.declared.held.Held.{Held}
use Rattle.word_sides.specs.declared.held.Held.TheVariants.{Few, Many}

-- how many values there are
abbrev pub len_of : Held → ℕ
len_of (Few n ws) = n
len_of (Many n ws) = n

-- the words that they stand in
abbrev pub words_of : Held → List ℕ
words_of (Few n ws) = ws
words_of (Many n ws) = ws.items
