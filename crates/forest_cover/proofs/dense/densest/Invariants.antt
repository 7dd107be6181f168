use Rattle.std.proofs.Common.{ℕ, [], ◌<◌, ◌≤◌, length, get_or}
use Rattle.forest_cover.specs.Dense.{demand}
use Rattle.forest_cover.proofs.dense.densest.Given as goal

abbrev pub invariant-loop-i : goal.invariant-loop-i
invariant-loop-i l = record {
  below : l.best < length l.classes;
  most : (k : ℕ) → k < l.i → demand l.graph.lines (get_or l.classes k []) ≤ demand l.graph.lines (get_or l.classes l.best []);
}
