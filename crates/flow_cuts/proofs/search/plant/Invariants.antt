use Rattle.std.proofs.Common.{length}
use Rattle.flow_cuts.proofs.SearchTrees.{IsPlanted}
use Rattle.flow_cuts.proofs.search.plant.Given as goal

abbrev pub invariant-loop-v : goal.invariant-loop-v
invariant-loop-v l = IsPlanted (length l.inside) l.inside l.v l.tree.marks.items l.tree.queue.items l.tree.count
