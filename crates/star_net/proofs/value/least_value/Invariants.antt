use Rattle.std.proofs.Common.{◌≡◌, length}
use Rattle.flow_cuts.specs.NewNode.{value_with}
use Rattle.star_net.proofs.LeastProper.{IsLeastBelow}
use Rattle.star_net.proofs.value.least_value.Given as goal

abbrev pub invariant-loop-u : goal.invariant-loop-u
invariant-loop-u l = record {
  arcs : l.star.arcs.now ≡ l.arcs;
  counts : l.star.counts.now ≡ l.counts;
  long : length l.into ≡ length l.counts;
  least : IsLeastBelow (length l.counts) (value_with l.arcs l.counts) l.v l.u l.stop l.value l.into;
}
