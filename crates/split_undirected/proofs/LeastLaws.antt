-- The values of a star's network, and what a search for the least of them asks.
use Rattle.std.specs.Prelude.{ℕ, ◌+◌, ◌*◌, ◌<◌, ◌≤◌, List, slice_index}
use Rattle.std.proofs.Common.{sym, ap, ◌∙◌, arith}
use Rattle.graph_core.specs.Side.{sum_over, complement}
use Rattle.graph_core.specs.declared.graph.Line.{Line}
use Rattle.graph_core.proofs.NodeCounts.{some_outside}
use Rattle.graph_core.proofs.ProperLaws.{proper-complement}
use Rattle.graph_core.proofs.WeightLaws.{nodes_all}
use Rattle.flow_cuts.specs.declared.network.Cap.{Cap}
use Rattle.flow_cuts.specs.LeastOver.{BoundsCounts, MissesCount}
use Rattle.flow_cuts.specs.NewNode.{value_with}
use Rattle.split_undirected.specs.CoveredStar.{total, room, IsCoveredStar}
use Rattle.split_undirected.specs.Network.{IsStarNet}
use Rattle.split_undirected.specs.Rows.{star_value}
use Rattle.split_undirected.proofs.StarLaws.{is_covered_star, same_covered_star}
use Rattle.split_undirected.proofs.Candidates.{room-le-total}

-- the values of a star's network
pub net_star : {n k : ℕ} {ls : List Line} {arcs : List Cap} {cs : List ℕ} → IsStarNet n k ls arcs cs → IsCoveredStar n k (value_with arcs cs) (slice_index cs)
net_star {n} {k} {ls} {arcs} {cs} net =
    same_covered_star (value_with arcs cs) (star_value ls (slice_index cs)) (λ X. ap (λ m. m + sum_over X (slice_index cs)) (net.same X)) (is_covered_star ls (slice_index cs) net.fit net.covered)

module _ {n k : ℕ} {ls : List Line} {arcs : List Cap} {cs : List ℕ} (net : IsStarNet n k ls arcs cs) where
  -- a side with many of the counts has no small value, since its complement has k at least
  pub bounds : BoundsCounts n k (value_with arcs cs) cs
  bounds X proper =
      let star = net_star net in
      omega (arith, star.turned X proper.long, star.covered (complement X) (proper-complement X proper), nodes_all cs, ap (λ m. total m (slice_index cs)) net.long)

  -- nor has a side with all of them
  pub misses : (u v b : ℕ) → u < n → v < n → b ≤ room (slice_index cs) u v → MissesCount n (value_with arcs cs) cs u v (k + 2 * b)
  misses u v b lu lv fits X proper xu xv short =
      let all = room-le-total n (slice_index cs) u v lu lv in
      let (x, l, out, some) = some_outside cs X (proper.long ∙ sym net.long) (omega (arith, bounds X proper, all, nodes_all cs, ap (λ m. total m (slice_index cs)) net.long)) in
      (x, omega (arith, proper.long), out, some)
