use Rattle.certificate_text.specs.SideRead.{IsMissing}
use Rattle.certificate_text.proofs.fields.node_from.Given as goal

abbrev pub invariant-loop-v : goal.invariant-loop-v
invariant-loop-v l = IsMissing l.graph l.from l.v l.word
