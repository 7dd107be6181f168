use Rattle.std.proofs.Common.{◌≡◌, ◌-◌, length}
use Rattle.flow_cuts.proofs.TakenWalks.{IsSplit}
use Rattle.flow_cuts.proofs.walks.split_walks.Given as goal

abbrev pub invariant-loop : goal.invariant-loop
invariant-loop l = record {
  split : IsSplit (length l.course.inside) l.course.inside l.course.outside l.fn.sent l.sent (l.count - l.counter) l.counter l.walks;
  marks : length l.tree.marks.items ≡ length l.course.inside;
  queue : length l.tree.queue.items ≡ length l.course.inside;
}
