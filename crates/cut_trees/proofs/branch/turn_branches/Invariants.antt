use Rattle.std.proofs.Common.{ℕ, ◌≡◌, ◌<◌, ◌≤◌}
use Rattle.cut_trees.specs.Branch.{at, turn}
use Rattle.cut_trees.proofs.branch.turn_branches.Given as goal

abbrev pub invariant-loop-branch : goal.invariant-loop-branch
invariant-loop-branch l = record {
  done : (k : ℕ) → k < l.branch-index → at l.branches k ≡ turn l.t (at l.initial.branches k);
  left : (k : ℕ) → l.branch-index ≤ k → at l.branches k ≡ at l.initial.branches k;
}
