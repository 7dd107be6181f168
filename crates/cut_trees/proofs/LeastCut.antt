-- The side of the least pair on the way between two nodes is a least cut of them.
use Rattle.std.specs.Prelude.{ℕ, ◌≡◌, ◌<◌, Bool, List, length}
use Rattle.std.proofs.Common.{sym, ◌∙◌, arith}
use Rattle.std.proofs.lemmas.List.Elements.{All-get_or}
use Rattle.graph_core.specs.Graph.{GraphValue}
use Rattle.graph_core.specs.Lines.{differ, degree}
use Rattle.graph_core.specs.Side.{has}
use Rattle.graph_core.proofs.PutLaws.{all_there}
use Rattle.problem_defs.specs.CutTree.{tree_lines, IsLeastCut}
use Rattle.flow_cuts.specs.NodeCuts.{IsLeastNodeCut, NoneIsLess}
use Rattle.graph_core.specs.Pairs.{no_pair, pair_at}
use Rattle.cut_trees.specs.Order.{IsReached, IsSearched}
use Rattle.cut_trees.specs.Way.{IsCutAt, IsLeastOnWay}
use Rattle.graph_core.proofs.CutLaws.{differ_same}
use Rattle.graph_core.proofs.Counting.{count_by-once}
use Rattle.problem_defs.proofs.TreeLines.{degree-tree}
use Rattle.cut_trees.proofs.Searched.{parts}

module _ {g : GraphValue} {pairs : List (ℕ × ℕ × ℕ)} {u : ℕ} {ps : List (ℕ × ℕ × ℕ)} {X : List Bool} (s : IsSearched g pairs u ps (length ps) X) where
  -- a search comes to all nodes
  pub reached_all : (v : ℕ) → v < length g.names → IsReached u ps (length ps) v
  reached_all v l = s.reached v (all_there X (s.size ∙ s.many ∙ sym s.long) v (omega (arith, s.long)))

  module _ {v j : ℕ} (way : IsLeastOnWay ps u v j) where
    pub none_less : NoneIsLess (length g.names) g.lines u v (pair_at ps j).2
    none_less Y e h =
        let (k, lk, cross, le) = way.least Y h in
        let few = (All-get_or (λ p. IsLeastCut g pairs p.0 p.1 p.2) ps k no_pair lk s.cuts).least Y e cross in
        omega arith

    pub least_side : (Z : List Bool) → length Z ≡ length g.names → IsCutAt ps j (length ps) Z → IsLeastNodeCut (length g.names) g.lines u v (pair_at ps j).2 Z
    least_side Z long cut =
        let ends = way.between Z cut.others in
        let alone : degree Z (tree_lines pairs) ≡ 1 =
        sym (s.same Z) ∙ degree-tree Z ps ∙ count_by-once (parts Z) ps j no_pair way.within (λ z. differ (cut.holds z) (cut.misses z)) (λ k l ne. differ_same (has Z (pair_at ps k).0) (has Z (pair_at ps k).1) (cut.others k l ne)) in
        record {
          long = long;
          holds = ends.0 ∙ cut.holds;
          misses = ends.1 ∙ cut.misses;
          value = (All-get_or (λ p. IsLeastCut g pairs p.0 p.1 p.2) ps j no_pair way.within s.cuts).weight Z long cut.holds cut.misses alone;
          least = λ Y e in_u out_v. none_less Y e (λ z. differ (in_u z) (out_v z));
        }
