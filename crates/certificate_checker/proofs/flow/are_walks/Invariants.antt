use Rattle.std.proofs.Common.{All, take}
use Rattle.graph_core.specs.Walks.{IsWalk}
use Rattle.certificate_checker.proofs.flow.are_walks.Given as goal

abbrev pub invariant-loop-row : goal.invariant-loop-row
invariant-loop-row l = All (IsWalk l.graph.kind l.graph.lines l.ask.from l.ask.to) (take l.row-index l.row-items)
