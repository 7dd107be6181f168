use Rattle.flow_cuts.proofs.Runs.{HasSides-run}
use Rattle.flow_cuts.proofs.flow.Flow.side.Goals as goal

pub returns : goal.returns
returns c = λ r is. rw c.set_to.ensures (HasSides-run c.self.inside c.args.self.now r c.self.view_is c.self.invariant c.requires.short is).smallest
