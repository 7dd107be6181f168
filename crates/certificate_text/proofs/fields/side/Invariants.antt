use Rattle.std.proofs.Common.{◌≤◌, length}
use Rattle.certificate_text.specs.WordsLeft.{words_left}
use Rattle.certificate_text.specs.SideRead.{SideRead}
use Rattle.certificate_text.proofs.fields.side.Given as goal

abbrev pub invariant-loop-word : goal.invariant-loop-word
invariant-loop-word l = SideRead l.graph.names (words_left l.fn.words) l.from l.side (words_left l.left) × (l.from ≤ length l.graph.names)

abbrev pub decreases-loop-word : goal.decreases-loop-word
decreases-loop-word l = length (words_left l.left)
