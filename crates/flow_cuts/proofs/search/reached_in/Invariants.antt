use Rattle.std.proofs.Common.{◌≡◌, ◌<◌, ℕ, true}
use Rattle.graph_core.specs.Side.{has}
use Rattle.flow_cuts.specs.Search.{mark_at, unseen}
use Rattle.flow_cuts.proofs.search.reached_in.Given as goal

abbrev pub invariant-loop-v : goal.invariant-loop-v
invariant-loop-v l = (v : ℕ) → v < l.v → has l.side v ≡ true → (mark_at l.marks v).level ≡ unseen
