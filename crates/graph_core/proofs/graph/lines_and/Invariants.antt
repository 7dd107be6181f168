use Rattle.std.proofs.Common.{◌≡◌, ◌++◌, take}
use Rattle.graph_core.specs.Graph.{lines_of}
use Rattle.graph_core.proofs.graph.lines_and.Given as goal

abbrev pub invariant-loop-tail : goal.invariant-loop-tail
invariant-loop-tail l = l.all.items ≡ l.lines ++ lines_of (take l.tail-index l.pairs)
