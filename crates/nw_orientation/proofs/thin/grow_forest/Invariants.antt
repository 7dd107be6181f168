use Rattle.nw_orientation.specs.Thin.{IsGrowing}
use Rattle.nw_orientation.proofs.thin.grow_forest.Given as goal

abbrev pub invariant-loop-j : goal.invariant-loop-j
invariant-loop-j l = IsGrowing l.n l.lines l.initial.marks l.j l.labels.items l.marks
