-- Counts with an even sum. No public clause cites it.
use Rattle.std.specs.Prelude.{ℕ, ◌≡◌, ◌≤◌, ◌+◌, ◌%◌, Bool, List, length, slice_index, sum}
use Rattle.graph_core.specs.Side.{sum_over}

-- counts with an even sum: of each side those that were there, and one more at most, at a node that had one
pub record IsMadeEven (old new : List ℕ) : Type 0 where
  pub long : length new ≡ length old
  pub even : sum new % 2 ≡ 0
  pub least : (X : List Bool) → sum_over X (slice_index old) ≤ sum_over X (slice_index new)
  pub most : (X : List Bool) → sum_over X (slice_index new) ≤ sum_over X (slice_index old) + 1
  pub held : (v : ℕ) → 1 ≤ slice_index new v → 1 ≤ slice_index old v
