use Rattle.std.proofs.Common.{◌++◌, ◌+◌, ◌-◌, length}
use Rattle.std.specs.Bool.{OnFalse}
use Rattle.graph_core.specs.Side.{size}
use Rattle.graph_core.proofs.Counting.{weight}
use Rattle.certificate_checker.specs.TreeSides.{IsGrown, AreUncrossed}
use Rattle.certificate_checker.proofs.reach.grow.Given as goal

abbrev pub invariant-loop-more : goal.invariant-loop-more
invariant-loop-more l = record {
  grown : IsGrown (l.before ++ l.behind) l.fn.side l.side;
  done : OnFalse l.more (AreUncrossed l.side (l.before ++ l.behind));
}

abbrev pub decreases-loop-more : goal.decreases-loop-more
decreases-loop-more l = length l.side - size l.side + weight l.more
