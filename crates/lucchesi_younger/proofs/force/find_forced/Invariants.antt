use Rattle.std.proofs.Common.{◌≡◌, ◌≤◌, ◌-◌, length, false}
use Rattle.graph_core.specs.Side.{has}
use Rattle.lucchesi_younger.specs.Search.{IsSearch, node}
use Rattle.lucchesi_younger.proofs.force.find_forced.Given as goal

abbrev pub invariant-places : goal.invariant-places
invariant-places l = record {
  held : l.held.kernels ≡ l.fn.held.kernels;
  search : IsSearch l.task.graph.now l.task.work.now l.task.late l.search.reached l.search.visits.items l.place;
  below : l.place ≤ length l.search.visits.items;
  start : node l.search.visits.items 0 ≡ l.task.line.head;
  fresh : has l.search.reached l.task.line.tail ≡ false;
}

abbrev pub decreases-places : goal.decreases-places
decreases-places l = length l.task.graph.now.names - l.place
