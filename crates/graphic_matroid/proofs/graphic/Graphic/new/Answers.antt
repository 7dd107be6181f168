use Rattle.std.proofs.Common.{◌≡◌, ◌≤◌, length, count_by, sym, ◌∙◌, subst, arith}
use Rattle.graphic_matroid.specs.Unfit.{unfit}
use Rattle.graphic_matroid.proofs.RootLaws.{count_by-unfit}
use Rattle.graphic_matroid.proofs.graphic.Graphic.new.Goals as goal

pub invariant_of-result : goal.invariant_of-result
invariant_of-result c =
    let lines = c.in-Ok.ensures.items ∙ c.lines.ensures in
    let few : length c.args.graph.now.lines ≤ 65536 = c.known.ensures.makes.few in
    let nodes : length c.args.graph.now.names ≤ 4096 = c.known.ensures.makes.nodes in
    let count = c.node_count-nodes.ensures in
    record {
      few_nodes = omega arith;
      few_lines = subst (λ ls. length ls ≤ 65536) (sym lines) few;
      fit = subst (λ ls. count_by (unfit c.node_count-nodes.result) ls ≡ 0) (sym lines)
          (subst (λ n. count_by (unfit n) c.args.graph.now.lines ≡ 0) (sym count) (count_by-unfit (length c.args.graph.now.names) c.args.graph.now.lines c.known.ensures.makes.ends));
      parents_long = c.in_ok-classes.ensures.parents_long;
      ranks_long = c.in_ok-classes.ensures.ranks_long;
    }
