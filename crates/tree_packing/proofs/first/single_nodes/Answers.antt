use Rattle.std.proofs.Common.{Bool, List, length, subst, arith}
use Rattle.std.proofs.lemmas.Result.{IfOk-weaker}
use Rattle.graphic_matroid.specs.Chosen.{chosen}
use Rattle.graphic_matroid.specs.Components.{AreComponents}
use Rattle.problem_defs.specs.Trees.{IsDual}
use Rattle.tree_packing.specs.Start.{IsWithinSingles}
use Rattle.tree_packing.proofs.Singles.{singles}
use Rattle.tree_packing.proofs.Start.{within-singles}
use Rattle.tree_packing.proofs.first.single_nodes.Goals as goal

pub returns : goal.returns
returns c =
    let g = c.args.graph.now in
    let many = λ (P : List (List Bool)) (w : AreComponents (length g.names) (chosen c.in_ok-none.none g.lines) P). singles (length g.names) c.line_count.result g.lines P (subst (λ A. AreComponents (length g.names) (chosen A g.lines) P) c.in_ok-none.ensures w) in
    record {
      dual = IfOk-weaker c.components.result (AreComponents (length g.names) (chosen c.in_ok-none.none g.lines)) (IsDual g)
          (λ P w. let enough = many P w in record { partition = w.partition; classes = omega arith })
          c.components.ensures;
      singles = IfOk-weaker c.components.result (AreComponents (length g.names) (chosen c.in_ok-none.none g.lines)) (IsWithinSingles g)
          (λ P w. let enough = many P w in within-singles g P (record { partition = w.partition; classes = omega arith }) c.requires.many enough)
          c.components.ensures;
    }
