use Rattle.std.proofs.Common.{◌≡◌, take, map}
use Rattle.cut_trees.specs.Branch.{pair_of}
use Rattle.cut_trees.proofs.tree.pairs_of.Given as goal

abbrev pub invariant-loop-branch : goal.invariant-loop-branch
invariant-loop-branch l = l.pairs ≡ map pair_of (take l.branch-index l.branches)
