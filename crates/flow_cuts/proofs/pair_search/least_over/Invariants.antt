use Rattle.std.proofs.Common.{◌≡◌, ◌≤◌, length}
use Rattle.flow_cuts.specs.NewNode.{value_with}
use Rattle.flow_cuts.proofs.LeastValues.{IsSearched}
use Rattle.flow_cuts.proofs.pair_search.least_over.Given as goal

abbrev pub invariant-loop-w : goal.invariant-loop-w
invariant-loop-w l = record {
  arcs : l.star.arcs.now ≡ l.initial.star.arcs.now;
  counts : l.star.counts.now ≡ l.initial.star.counts.now;
  long : length l.into ≡ length l.initial.into;
  unchanged : l.stop ≤ l.answer → l.into ≡ l.initial.into;
  searched : IsSearched (length l.initial.star.counts.now) (value_with l.initial.star.arcs.now l.initial.star.counts.now) l.other l.fn.pair.0 l.fn.pair.1 l.stop l.w l.answer l.held l.into;
}
