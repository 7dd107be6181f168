use Rattle.std.proofs.Common.{◌≡◌, [], ◌∷◌, length, sym, subst, arith}
use Rattle.std.proofs.lemmas.Result.{IfOk-weaker}
use Rattle.graph_core.specs.Side.{complement}
use Rattle.graph_core.proofs.FamilyLaws.{IsPartition-halves}
use Rattle.problem_defs.specs.Trees.{IsDual}
use Rattle.tree_packing.specs.Start.{IsWithinNodes}
use Rattle.tree_packing.proofs.Start.{bound-halves}
use Rattle.tree_packing.proofs.first.node_and_rest.Goals as goal

pub returns : goal.returns
returns c =
    let g = c.args.graph.now in
    let X = c.in_ok-node.node in
    let proper = c.in_ok-node.ensures.proper in
    record {
      dual = IfOk-weaker c.halves.result (λ P. P ≡ X ∷ complement X ∷ []) (IsDual g)
          (λ P e. subst (IsDual g) (sym e) (record { partition = IsPartition-halves (length g.names) X proper; classes = omega arith }))
          c.halves.ensures;
      nodes = IfOk-weaker c.halves.result (λ P. P ≡ X ∷ complement X ∷ []) (IsWithinNodes g)
          (λ P e. subst (IsWithinNodes g) (sym e) (λ Y v long y. let least = c.in_ok-node.ensures.least Y v long y in omega (arith, bound-halves g X c.known.ensures.makes.ends proper.long)))
          c.halves.ensures;
    }
