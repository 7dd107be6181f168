use Rattle.std.proofs.Common.{◌∙◌}
use Rattle.flow_cuts.proofs.StarFlows.{run_sides}
use Rattle.flow_cuts.proofs.star_flow.StarFlow.run.Goals as goal

pub returns-clause-sides : goal.returns-clause-sides
returns-clause-sides c =
    let me = c.args.self.now in
    rw (c.put.ensures, c.put-2.ensures) (
    run_sides c.copy_nodes.new.into c.hold_only.new.self c.requires.held (c.copy_nodes.ensures.long ∙ me.inside_long) c.copy_nodes.ensures.first
    (c.hold_only.ensures.long ∙ me.outside_long) c.hold_only.ensures.only c.requires.missed
    )
