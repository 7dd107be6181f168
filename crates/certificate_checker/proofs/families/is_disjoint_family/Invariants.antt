use Rattle.std.proofs.Common.{◌<◌, ◌≤◌, ℕ}
use Rattle.graph_core.specs.Families.{members_with}
use Rattle.certificate_checker.proofs.families.is_disjoint_family.Given as goal

abbrev pub invariant-loop-node : goal.invariant-loop-node
invariant-loop-node l = (v : ℕ) → v < l.node → members_with v l.sides ≤ 1
