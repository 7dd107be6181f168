use Rattle.lucchesi_younger.specs.Search.{IsBack}
use Rattle.lucchesi_younger.proofs.force.way_to.Given as goal

abbrev pub invariant-back : goal.invariant-back
invariant-back l = IsBack l.task.graph.now l.task.work.now l.task.late l.search.visits.items l.initial.at l.at l.steps

abbrev pub decreases-back : goal.decreases-back
decreases-back l = l.at
