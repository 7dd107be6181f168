use Rattle.std.proofs.Common.{◌≡◌, ◌+◌, ◌≤◌, true, drop, count_by}
use Rattle.nw_orientation.specs.Chosen.{chosen}
use Rattle.nw_orientation.specs.Moved.{touches}
use Rattle.nw_orientation.proofs.prune.marked_degree.Given as goal

abbrev pub invariant-loop-i : goal.invariant-loop-i
invariant-loop-i l = record {
  counted : l.count + count_by (touches l.v) (chosen true (drop l.i l.lines) (drop l.i l.marks)) ≡ count_by (touches l.v) (chosen true l.lines l.marks);
  few : l.count ≤ l.i;
}
