use Rattle.problem_defs.specs.Trees.{IsDual, bound}
use Rattle.tree_packing.proofs.packing.pack_trees.Given as goal

abbrev pub invariant-improve : goal.invariant-improve
invariant-improve l = IsDual l.graph l.dual

abbrev pub decreases-improve : goal.decreases-improve
decreases-improve l = bound l.graph l.dual
