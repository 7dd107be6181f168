use Rattle.std.proofs.Common.{◌≡◌, ◌≤◌, ◌==◌, take, slice_get}
use Rattle.std.specs.Prelude.{count_by}
use Rattle.graph_core.proofs.Counting.{passes}
use Rattle.certificate_checker.proofs.arborescences.heads_at.Given as goal

abbrev pub invariant-loop-j : goal.invariant-loop-j
invariant-loop-j l = record {
  counted : l.count ≡ count_by (λ j. passes (λ k. k.head == l.node) (slice_get l.graph.lines j)) (take l.j-index l.row);
  few : l.count ≤ l.j-index;
}
