use Rattle.std.proofs.Common.{ℕ, ◌≡◌, ◌<◌, ◌≤◌}
use Rattle.cut_trees.specs.Branch.{at, lead}
use Rattle.cut_trees.proofs.branch.lead_on.Given as goal

abbrev pub invariant-loop-branch : goal.invariant-loop-branch
invariant-loop-branch l = record {
  done : (k : ℕ) → k < l.branch-index → at l.branches k ≡ lead l.t l.s l.side (at l.initial.branches k);
  left : (k : ℕ) → l.branch-index ≤ k → at l.branches k ≡ at l.initial.branches k;
}
