use Rattle.std.proofs.Common.{◌≡◌, ℕ, ◌+◌, take}
use Rattle.std.specs.List.{concat}
use Rattle.graph_core.specs.Picked.{occurrences, mark}
use Rattle.certificate_checker.proofs.marks.mark_rows.Given as goal

abbrev pub invariant-loop-row : goal.invariant-loop-row
invariant-loop-row l = (k : ℕ) → mark l.marks k ≡ mark l.initial.marks k + occurrences k (concat (take l.row-index l.rows))
