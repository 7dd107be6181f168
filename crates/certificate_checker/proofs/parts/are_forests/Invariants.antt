use Rattle.std.proofs.Common.{All, take, length}
use Rattle.graph_core.specs.Trees.{IsForest}
use Rattle.certificate_checker.proofs.parts.are_forests.Given as goal

abbrev pub invariant-loop-row : goal.invariant-loop-row
invariant-loop-row l = All (IsForest (length l.graph.names) l.graph.lines) (take l.row-index l.row-items)
