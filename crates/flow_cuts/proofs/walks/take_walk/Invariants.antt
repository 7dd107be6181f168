use Rattle.flow_cuts.proofs.TakenWalks.{IsTaking}
use Rattle.flow_cuts.specs.Search.{mark_at}
use Rattle.flow_cuts.proofs.walks.take_walk.Given as goal

abbrev pub invariant-loop-step : goal.invariant-loop-step
invariant-loop-step l = IsTaking l.inside l.marks l.end l.fn.sent l.sent l.v l.walk.items

abbrev pub decreases-loop-step : goal.decreases-loop-step
decreases-loop-step l = (mark_at l.marks l.v).level
