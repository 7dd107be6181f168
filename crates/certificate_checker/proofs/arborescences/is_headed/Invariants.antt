use Rattle.std.proofs.Common.{◌≡◌, ◌<◌, ◌==◌, ℕ}
use Rattle.std.specs.Prelude.{if◌then◌else◌}
use Rattle.graph_core.specs.Picked.{picked}
use Rattle.graph_core.specs.Trees.{in_degree}
use Rattle.certificate_checker.proofs.arborescences.is_headed.Given as goal

abbrev pub invariant-loop-node : goal.invariant-loop-node
invariant-loop-node l = (v : ℕ) → v < l.node → in_degree v (picked l.graph.lines l.row) ≡ (if v == l.root then 0 else 1)
