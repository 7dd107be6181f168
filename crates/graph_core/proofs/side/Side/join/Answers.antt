use Rattle.std.proofs.Common.{◌||◌}
use Rattle.graph_core.proofs.SideLaws.{length-made}
use Rattle.graph_core.proofs.side.Side.join.Goals as goal

pub returns-clause-long : goal.returns-clause-long
returns-clause-long c = length-made ◌||◌ c.args.self.now c.args.other.now _ _ _ c.join.ensures c.self.view_is c.other.view_is c.requires
