use Rattle.std.proofs.Common.{◌≡◌, ℕ, ◌+◌, take}
use Rattle.graph_core.specs.Picked.{occurrences, mark}
use Rattle.graph_core.proofs.distinct.mark_row.Given as goal

abbrev pub invariant-loop-j : goal.invariant-loop-j
invariant-loop-j l = (k : ℕ) → mark l.marks k ≡ mark l.initial.marks k + occurrences k (take l.j-index l.row)
