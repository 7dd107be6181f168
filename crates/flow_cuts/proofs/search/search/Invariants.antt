use Rattle.std.proofs.Common.{◌≡◌, ◌<◌, ◌≤◌, ◌-◌, ℕ, true, length}
use Rattle.graph_core.specs.Side.{has}
use Rattle.flow_cuts.specs.Search.{IsFilled, IsSearchForest, IsDone, mark_at, unseen}
use Rattle.flow_cuts.proofs.search.search.Given as goal

abbrev pub invariant-loop-done : goal.invariant-loop-done
invariant-loop-done l = record {
  filled : IsFilled (length l.inside) l.tree.marks.items l.tree.queue.items l.tree.count;
  roots : (v : ℕ) → has l.inside v ≡ true → (mark_at l.tree.marks.items v).level < unseen;
  forest : IsSearchForest l.links l.inside l.tree.marks.items;
  done : IsDone l.links l.steps l.tree.marks.items l.tree.queue.items l.done;
  within : l.done ≤ l.tree.count;
}

abbrev pub decreases-loop-done : goal.decreases-loop-done
decreases-loop-done l = length l.inside - l.done
