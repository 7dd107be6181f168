use Rattle.std.proofs.Common.{◌≡◌, ℕ, true, suc, ◌<◌, length, slice_index}
use Rattle.graph_core.specs.Side.{has}
use Rattle.matroid_union.specs.Parts.{own_of, spare, IsPacking, End, Tree}
use Rattle.matroid_union.proofs.exchange.exchange.Given as goal

abbrev pub invariant-path : goal.invariant-path
invariant-path g l = record {
  place : l.at < length l.search.queue.items;
  packing : IsPacking (g.M.Matroid.count l._matroid) (g.M.Matroid.free l._matroid) l.k (own_of l.owner);
  tree : Tree (g.M.Matroid.count l._matroid) (g.M.Matroid.free l._matroid) (own_of l.owner) (slice_index l.search.queue.items) (slice_index l.search.back.items) (suc l.at);
  ends : End (g.M.Matroid.count l._matroid) (g.M.Matroid.free l._matroid) l.k (own_of l.owner) (slice_index l.search.queue.items) l.at l.number;
  kept : (e : ℕ) → has l.search.dead e ≡ true → own_of l.owner e ≡ own_of l.initial.owner e;
  fewer : spare l.owner ≡ spare l.initial.owner;
}

abbrev pub decreases-path : goal.decreases-path
decreases-path g l = l.at
