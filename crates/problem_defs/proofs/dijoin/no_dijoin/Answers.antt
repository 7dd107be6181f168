use Rattle.problem_defs.specs.Dijoin.Law.{none_exists}
use Rattle.problem_defs.proofs.dijoin.no_dijoin.Goals as goal

pub returns : goal.returns
returns c = none_exists c.args.graph.now c.args.side.now c.requires
