-- The words of a line that were not read yet: what stands between blanks. No public clause cites it.
use Rattle.std.specs.Prelude.{ℕ, ◌==◌, Bool, List, []}
use Rattle.std.specs.List.{slice_split}
use Rattle.certificate_text.specs.declared.words.WordsLeft.{WordsLeft}
use Rattle.certificate_text.specs.declared.words.WordsLeft.TheVariants.{More, Done}

abbrev pub is_blank : ℕ → Bool
is_blank byte = byte == 32

abbrev pub words_left : WordsLeft → List (List ℕ)
words_left (More bytes) = slice_split is_blank bytes.now
words_left Done = []
