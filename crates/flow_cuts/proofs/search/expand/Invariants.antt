use Rattle.std.proofs.Common.{List, Bool, length}
use Rattle.flow_cuts.specs.Search.{IsFilled, Grows, IsSearchForest, IsLookedAt}
use Rattle.flow_cuts.proofs.search.expand.Given as goal

abbrev pub invariant-loop-step : goal.invariant-loop-step
invariant-loop-step l = record {
  filled : IsFilled (length l.fn.tree.marks.items) l.tree.marks.items l.tree.queue.items l.tree.count;
  grows : Grows l.fn.tree.marks.items l.fn.tree.queue.items l.fn.tree.count l.tree.marks.items l.tree.queue.items l.tree.count;
  forest : (inside : List Bool) → IsSearchForest l.links inside l.fn.tree.marks.items → IsSearchForest l.links inside l.tree.marks.items;
  looked : IsLookedAt l.links l.tree.marks.items l.row l.step-index;
}
