use Rattle.std.proofs.Common.{◌↔◌, drop}
use Rattle.graph_core.specs.Walks.{IsWay}
use Rattle.certificate_checker.proofs.flow.is_walk.Given as goal

abbrev pub invariant-loop-j : goal.invariant-loop-j
invariant-loop-j l = IsWay l.graph.kind l.graph.lines l.ask.from l.ask.to l.row ↔ IsWay l.graph.kind l.graph.lines l.at l.ask.to (drop l.j-index l.row)
