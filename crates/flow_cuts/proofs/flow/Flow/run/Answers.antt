use Rattle.std.proofs.Common.{ap}
use Rattle.flow_cuts.proofs.Runs.{IsLeastCapacity-run}
use Rattle.flow_cuts.proofs.flow.Flow.run.Goals as goal

pub returns-clause-least : goal.returns-clause-least
returns-clause-least c =
    rw (← ap (λ f. f.arcs) c.self.view_is, ← c.requires.inside, ← c.set_to.ensures, ← c.set_to-2.ensures)
    (IsLeastCapacity-run _ _ _ _ c.args.stop c.renew-answer.result _ (c.renew-answer.ensures.run _ (rw c.deref.ensures.value c.self.invariant.arcs)))
