use Rattle.std.proofs.Common.{◌≡◌, ◌<◌, ℕ, length}
use Rattle.flow_cuts.specs.Residual.{link_at}
use Rattle.flow_cuts.specs.Streams.{sent_of}
use Rattle.flow_cuts.proofs.walks.sent_links.Given as goal

abbrev pub invariant-loop-j : goal.invariant-loop-j
invariant-loop-j l = record {
  len : length l.sent.items ≡ l.j;
  at : (i : ℕ) → i < l.j → link_at l.sent.items i ≡ sent_of (link_at l.whole i) (link_at l.links i);
}
