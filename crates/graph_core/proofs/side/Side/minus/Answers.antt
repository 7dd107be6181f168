use Rattle.std.proofs.Common.{◌&&◌, not}
use Rattle.graph_core.proofs.SideLaws.{length-made}
use Rattle.graph_core.proofs.side.Side.minus.Goals as goal

pub returns-clause-long : goal.returns-clause-long
returns-clause-long c = length-made (λ x y. x && not y) c.args.self.now c.args.other.now _ _ _ c.minus.ensures c.self.view_is c.other.view_is c.requires
