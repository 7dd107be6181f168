use Rattle.std.proofs.Common.{◌≡◌, ◌<◌, ◌++◌, All, length}
use Rattle.certificate_text.specs.Words as words_of
use Rattle.certificate_text.specs.WordsLeft.{words_left}
use Rattle.certificate_text.proofs.fields.numbers.Given as goal

abbrev pub invariant-loop-word : goal.invariant-loop-word
invariant-loop-word l = All (λ j. j < l.m) l.numbers × (words_left l.fn.words ≡ words_of.numbers l.numbers ++ words_left l.rest)

abbrev pub decreases-loop-word : goal.decreases-loop-word
decreases-loop-word l = length (words_left l.rest)
