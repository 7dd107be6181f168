use Rattle.std.proofs.Common.{◌≡◌}
use Rattle.lucchesi_younger.specs.Search.{IsSearch, Grows, PastJumps, node}
use Rattle.lucchesi_younger.proofs.scan.scan_jumps.Given as goal

abbrev pub invariant-nodes : goal.invariant-nodes
invariant-nodes l = record {
  held : l.held.kernels ≡ l.fn.held.kernels;
  search : IsSearch l.task.graph.now l.task.work.now l.task.late l.search.reached l.search.visits.items l.place;
  grows : Grows l.fn.search.reached l.search.reached l.fn.search.visits.items l.search.visits.items;
  past : PastJumps l.task.graph.now l.task.work.now (node l.fn.search.visits.items l.place) l.search.reached l.to;
}
