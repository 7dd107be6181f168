use Rattle.std.proofs.Common.{ℕ, ◌≡◌, ◌<◌, ◌≤◌, length}
use Rattle.flow_cuts.specs.Sparse.{AreJoined}
use Rattle.flow_cuts.proofs.sparse.sparse_side.Given as goal

abbrev pub invariant-loop-v : goal.invariant-loop-v
invariant-loop-v l = record {
  nodes : l.flow.nodes ≡ l.n;
  arcs : l.flow.arcs ≡ l.arcs;
  inside : length l.inside ≡ l.n;
  outside : length l.outside ≡ l.n;
  joined : (w : ℕ) → 1 ≤ w → w < l.v → AreJoined l.n l.arcs 0 w l.least × AreJoined l.n l.arcs w 0 l.least;
}
