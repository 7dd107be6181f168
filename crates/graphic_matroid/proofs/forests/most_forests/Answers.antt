use Rattle.std.proofs.Common.{length, subst}
use Rattle.graph_core.specs.Trees.{IsAcyclic}
use Rattle.matroid_union.specs.Union.{IsUnion}
use Rattle.graphic_matroid.specs.Chosen.{chosen}
use Rattle.graphic_matroid.proofs.DualCounts.{most_forests}
use Rattle.graphic_matroid.proofs.forests.most_forests.Goals as goal

pub returns : goal.returns
returns c =
    let g = c.args.graph.now in
    let found = c.in_ok-parts.field-0 in
    let at_lines = subst (λ ls. IsUnion (length ls) (λ A. IsAcyclic c.in_ok-matroid.matroid.nodes (chosen A ls)) c.args.k found.parts found.reached) c.in_ok-matroid.ensures.lines c.in_ok-parts.ensures.union in
    let union = subst (λ n. IsUnion (length g.lines) (λ A. IsAcyclic n (chosen A g.lines)) c.args.k found.parts found.reached) c.in_ok-matroid.ensures.nodes at_lines in
    most_forests (length g.names) g.lines c.known.ensures.makes.ends c.args.k found.parts found.reached union c.in_ok-classes.classes c.in_ok-classes.ensures
