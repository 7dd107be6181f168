-- Slots were passed that the line doesn't take.
use Rattle.std.proofs.Common.{◌≡◌, length}
use Rattle.certificate_text.specs.Taking as taking
use Rattle.certificate_text.specs.Forms as forms
use Rattle.certificate_text.proofs.advance.take_line.Given as goal

abbrev pub invariant-loop-left : goal.invariant-loop-left
invariant-loop-left l = taking.take_line (forms.has_form l.graph) l.left l.line ≡ taking.take_line (forms.has_form l.graph) l.initial.left l.line

abbrev pub decreases-loop-left : goal.decreases-loop-left
decreases-loop-left l = length l.left
