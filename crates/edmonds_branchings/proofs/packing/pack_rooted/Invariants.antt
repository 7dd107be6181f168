use Rattle.std.proofs.Common.{◌≡◌, ◌-◌, length}
use Rattle.edmonds_branchings.proofs.Packed.{IsPacking}
use Rattle.edmonds_branchings.proofs.packing.pack_rooted.Given as goal

abbrev pub invariant-loop-made : goal.invariant-loop-made
invariant-loop-made l = record {
  many : length l.rows ≡ l.made;
  packing : IsPacking (length l.graph.names) (l.k - l.made) l.graph.lines l.roots l.arcs.items l.rows;
}
