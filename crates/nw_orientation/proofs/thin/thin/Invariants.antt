use Rattle.nw_orientation.specs.Thin.{IsThin}
use Rattle.nw_orientation.proofs.thin.thin.Given as goal

abbrev pub invariant-loop-forest : goal.invariant-loop-forest
invariant-loop-forest l = IsThin l.forest l.lines l.marks.items
