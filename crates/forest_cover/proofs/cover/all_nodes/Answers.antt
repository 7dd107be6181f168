use Rattle.std.proofs.Common.{ap, ◌∙◌}
use Rattle.graph_core.specs.Side.{complement}
use Rattle.forest_cover.proofs.Denser.{complement-none}
use Rattle.forest_cover.proofs.cover.all_nodes.Goals as goal

pub returns : goal.returns
returns c = c.complement.ensures.complement ∙ ap complement c.in_ok-side.ensures ∙ complement-none c.args.n
