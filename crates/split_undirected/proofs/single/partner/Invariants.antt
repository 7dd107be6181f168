use Rattle.std.proofs.Common.{◌≡◌, length, slice_index}
use Rattle.split_undirected.specs.CoveredStar.{is_candidate, AreWitnesses}
use Rattle.flow_cuts.specs.NewNode.{value_with}
use Rattle.split_undirected.proofs.single.partner.Given as goal
use Rattle.graph_core.proofs.SizeLaws.{count_below}

abbrev pub invariant-tries : goal.invariant-tries
invariant-tries l = record {
  side : length l.side ≡ length l.rest.counts.items;
  witnesses : AreWitnesses (length l.rest.counts.items) l.k (value_with l.rest.arcs.items l.rest.counts.items) l.u l.witnesses.near l.witnesses.far;
}

abbrev pub decreases-tries : goal.decreases-tries
decreases-tries l = count_below (length l.rest.counts.items) (is_candidate (slice_index l.rest.counts.items) l.u l.witnesses.near l.witnesses.far)
