use Rattle.std.proofs.Common.{◌&&◌, not, sym}
use Rattle.graph_core.proofs.SideLaws.{length-made}
use Rattle.graph_core.proofs.side.Side.part.Goals as goal

pub returns-clause-my_long : goal.returns-clause-my_long
returns-clause-my_long c = length-made (λ x y. x && not y) c.args.self.now c.args.other.now _ _ _ c.part.ensures.mine c.self.view_is c.other.view_is c.requires

pub returns-clause-their_long : goal.returns-clause-their_long
returns-clause-their_long c = length-made (λ x y. x && not y) c.args.other.now c.args.self.now _ _ _ c.part.ensures.theirs c.other.view_is c.self.view_is (sym c.requires)
