-- A star before any pair is split off, and after all are.
use Rattle.std.specs.Prelude.{ℕ, ◌≡◌, ◌+◌, ◌*◌, ◌%◌, ◌<◌, ◌≤◌, List, [], length, sum, slice_index, All}
use Rattle.std.proofs.Common.{sym, ◌∙◌, arith, subst, append-nil}
use Rattle.std.proofs.lemmas.List.Elements.{All-nil}
use Rattle.graph_core.specs.Side.{sum_over}
use Rattle.graph_core.specs.Graph.{Fits}
use Rattle.graph_core.specs.Connected.{IsEdgeConnected}
use Rattle.graph_core.specs.declared.graph.Line.{Line}
use Rattle.graph_core.specs.declared.graph.Kind.TheVariants.{Undirected}
use Rattle.graph_core.proofs.NodeLaws.{nodes_none}
use Rattle.graph_core.proofs.SideLaws.{has-below}
use Rattle.cut_fn.specs.Covered.{IsCovered}
use Rattle.flow_cuts.specs.declared.network.Cap.{Cap}
use Rattle.flow_cuts.specs.GraphArcs.{arcs_of}
use Rattle.split_undirected.specs.Network.{IsStarNet}
use Rattle.split_undirected.specs.Underway.{IsUnderway}
use Rattle.split_undirected.proofs.NextNet.{net_start}
use Rattle.graph_core.proofs.WeightLaws.{nodes_agree}
use Rattle.graph_core.specs.Pairs.{IsRow, pairs_of}
use Rattle.split_undirected.specs.Split.{lines_after}
use Rattle.split_undirected.specs.Rows.{star_value}

pub underway_start : {n k : ℕ} (ls : List Line) (counts : List ℕ) → length counts ≡ n → n ≤ 4096 → 2 * length ls + sum counts ≤ 131072 → sum counts % 2 ≡ 0 → All (Fits n) ls → IsCovered n k (star_value ls (slice_index counts))
    → IsUnderway n k ls (slice_index counts) [] (arcs_of Undirected ls) counts
underway_start {n} {k} ls counts long nodes few even fit covered = record {
  net = subst (λ L. IsStarNet n k L (arcs_of Undirected ls) counts) (sym (append-nil ls)) (net_start ls counts long nodes few fit covered);
  left = λ x. omega arith;
  even = even;
  most = record { each = All-nil (IsRow n); most = λ j l. absurd (omega arith); once = λ i j before l same. absurd (omega arith) };
}

module _ {n k : ℕ} {ls : List Line} {w : ℕ → ℕ} {rows : List (ℕ × ℕ × ℕ)} {arcs : List Cap} {counts : List ℕ} (under : IsUnderway n k ls w rows arcs counts) (spent : (v : ℕ) → v < n → slice_index counts v ≡ 0) where
  -- without counts the values are those of the graph
  pub connected : IsEdgeConnected k n (lines_after ls (pairs_of rows))
  connected X proper =
      let none : sum_over X (slice_index counts) ≡ 0 = nodes_agree (slice_index counts) (λ _. 0) X (λ v h. spent v (let l = has-below X v h in omega (arith, proper.long))) ∙ nodes_none X in
      omega (arith, under.net.covered X proper)
