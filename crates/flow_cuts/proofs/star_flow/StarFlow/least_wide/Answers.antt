use Rattle.std.proofs.Common.{◌+◌, length, ◌∙◌, arith}
use Rattle.flow_cuts.specs.Cuts.{IsLargestCut}
use Rattle.flow_cuts.specs.NewNode.{with_new_node}
use Rattle.flow_cuts.proofs.StarFlows.{least_missing, narrowed, largest}
use Rattle.flow_cuts.proofs.star_flow.StarFlow.least_wide.Goals as goal

pub returns-then-answer-stop-clause-least : goal.returns-then-answer-stop-clause-least
returns-then-answer-stop-clause-least c =
    let run = c.run-answer.ensures in
    let s = c.run-answer.new.self in
    let cut : IsLargestCut (length c.args.self.now.counts.now + 1) s.inside s.outside (with_new_node c.args.self.now.arcs.now c.args.self.now.counts.now) c.run-answer.result c.wide_side.new.into =
    rw (s.nodes, s.network, run.arcs, run.counts) at (c.wide_side.ensures _ run.ran) in
    least_missing c.args.self.now.arcs.now c.args.self.now.counts.now run.sides run.least c.copy_nodes.new.into
    (λ _. narrowed c.args.self.now.arcs.now c.args.self.now.counts.now run.sides run.least c.copy_nodes.new.into (c.copy_nodes.ensures.long ∙ c.requires.into) (rw run.counts at c.copy_nodes.ensures.first) cut.cut)

pub returns-then-answer-stop-clause-largest : goal.returns-then-answer-stop-clause-largest
returns-then-answer-stop-clause-largest c = λ _.
    let run = c.run-answer.ensures in
    let s = c.run-answer.new.self in
    let cut : IsLargestCut (length c.args.self.now.counts.now + 1) s.inside s.outside (with_new_node c.args.self.now.arcs.now c.args.self.now.counts.now) c.run-answer.result c.wide_side.new.into =
    rw (s.nodes, s.network, run.arcs, run.counts) at (c.wide_side.ensures _ run.ran) in
    largest c.args.self.now.arcs.now c.args.self.now.counts.now run.sides run.least c.copy_nodes.new.into (c.copy_nodes.ensures.long ∙ c.requires.into) (rw run.counts at c.copy_nodes.ensures.first) cut

pub returns-else-answer-stop-clause-least : goal.returns-else-answer-stop-clause-least
returns-else-answer-stop-clause-least c =
    least_missing c.args.self.now.arcs.now c.args.self.now.counts.now c.run-answer.ensures.sides c.run-answer.ensures.least c.args.into.now (λ short. absurd (omega (arith, c.if-answer-stop.false)))
