use Rattle.std.proofs.Common.{◌≡◌, ◌≤◌, ℕ, List, length, slice_index}
use Rattle.graph_core.specs.declared.graph.Line.{Line}
use Rattle.split_undirected.specs.CoveredStar.{is_candidate}
use Rattle.split_undirected.specs.Underway.{IsUnderway, IsTurn}
use Rattle.split_undirected.proofs.many.split_node.Given as goal
use Rattle.graph_core.proofs.SizeLaws.{count_below}

abbrev pub invariant-turns : goal.invariant-turns
invariant-turns l = record {
  long : length l.rest.counts.items ≡ length l.initial.rest.counts.items;
  underway : (ls : List Line) (w : ℕ → ℕ) → IsUnderway (length l.initial.rest.counts.items) l.k ls w l.initial.rows l.initial.rest.arcs.items l.initial.rest.counts.items → IsUnderway (length l.initial.rest.counts.items) l.k ls w l.rows l.rest.arcs.items l.rest.counts.items;
  turn : IsTurn (length l.initial.rest.counts.items) l.k l.u l.rows l.rest.arcs.items l.rest.counts.items l.witnesses.near l.witnesses.far;
  falls : (x : ℕ) → slice_index l.rest.counts.items x ≤ slice_index l.initial.rest.counts.items x;
}

abbrev pub decreases-turns : goal.decreases-turns
decreases-turns l = count_below (length l.initial.rest.counts.items) (is_candidate (slice_index l.rest.counts.items) l.u l.witnesses.near l.witnesses.far)
