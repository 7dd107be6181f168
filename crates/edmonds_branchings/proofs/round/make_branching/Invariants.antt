use Rattle.std.proofs.Common.{◌≡◌, ◌+◌, length}
use Rattle.graph_core.specs.Side.{size}
use Rattle.edmonds_branchings.specs.Round.{IsRound, AreRefused}
use Rattle.edmonds_branchings.specs.Row.{IsRow}
use Rattle.edmonds_branchings.proofs.round.make_branching.Given as goal

abbrev pub invariant-loop : goal.invariant-loop
invariant-loop l = record {
  many : size l.covered ≡ l.counter + 1;
  round : IsRound (length l.graph.names) l.k l.arcs.items l.covered;
  long : length l.refused ≡ length l.arcs.items;
  refused : AreRefused (length l.graph.names) l.k l.arcs.items l.refused;
  row : IsRow (length l.graph.names) l.graph.lines l.fn.arcs.items l.arcs.items l.covered l.row;
}
