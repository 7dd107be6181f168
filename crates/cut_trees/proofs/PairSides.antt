-- One side belongs to each pair of a tree.
use Rattle.std.specs.Prelude.{ℕ, ◌≡◌, ◌+◌, ◌<◌, List, length, remove, slice_index_or, All}
use Rattle.std.proofs.Common.{arith, subst}
use Rattle.std.proofs.lemmas.List.Elements.{All-get_or, All-from_get_or}
use Rattle.graph_core.specs.Graph.{GraphValue, Fits}
use Rattle.graph_core.specs.Labels.{Adds}
use Rattle.problem_defs.specs.CutTree.{tree_lines, IsSpanningTree}
use Rattle.graph_core.specs.Pairs.{no_pair}
use Rattle.cut_trees.specs.PairSide.{HasOneSide}
use Rattle.graph_core.proofs.TreeLaws.{removed, All-removed, line_side, one_side}
use Rattle.problem_defs.proofs.TreeLines.{pair_line, length-tree, tree-line}

pub pair_has_side : (g : GraphValue) (pairs : List (ℕ × ℕ × ℕ)) → IsSpanningTree g pairs → All (HasOneSide (length g.names) pairs) pairs
pair_has_side g pairs tree = All-from_get_or (HasOneSide (length g.names) pairs) pairs no_pair (λ j l.
    let n = length g.names in
    let ls = tree_lines pairs in
    let p = slice_index_or pairs j no_pair in
    let lj : j < length ls = omega (arith, length-tree pairs) in
    let adds : Adds (remove ls j) (pair_line p) ls = subst (λ k. Adds (remove ls j) k ls) (tree-line pairs j (pair_line no_pair) no_pair l) (removed ls j (pair_line no_pair) lj) in
    let fit : Fits n (pair_line p) = subst (Fits n) (tree-line pairs j (pair_line no_pair) no_pair l) (All-get_or (Fits n) ls j (pair_line no_pair) lj tree.fit) in
    let many : length ls + 1 ≡ n = omega (arith, length-tree pairs, tree.many) in
    let (Z, long, holds, misses, alone) = line_side ls tree.acyclic (remove ls j) (pair_line p) (All-removed (Fits n) ls j tree.fit) fit adds in
    record {
      side = Z;
      is = record { long = long; holds = holds; misses = misses; alone = alone };
      only = λ X s. one_side ls tree.fit tree.acyclic many (remove ls j) (pair_line p) fit adds X Z s.long long s.holds holds s.misses misses s.alone alone;
    })
