-- Only blanks were passed.
use Rattle.std.proofs.Common.{◌≡◌, length}
use Rattle.graph_text.specs.Lines as lines_of
use Rattle.graph_text.proofs.words.next_word.Given as goal

abbrev pub invariant-loop-rest : goal.invariant-loop-rest
invariant-loop-rest l = lines_of.words l.rest ≡ lines_of.words l.text

abbrev pub decreases-loop-rest : goal.decreases-loop-rest
decreases-loop-rest l = length l.rest
