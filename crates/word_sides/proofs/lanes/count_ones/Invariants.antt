use Rattle.std.proofs.Common.{◌≡◌, ◌*◌}
use Rattle.word_sides.specs.Words.{ones_in}
use Rattle.word_sides.proofs.lanes.count_ones.Given as goal

abbrev pub invariant-loop-word : goal.invariant-loop-word
invariant-loop-word l = l.ones ≡ ones_in (64 * l.word-index) l.words
