use Rattle.lucchesi_younger.specs.Search.{IsSearch, Grows, PastArcs, node}
use Rattle.lucchesi_younger.proofs.scan.scan_arcs.Given as goal

abbrev pub invariant-arcs : goal.invariant-arcs
invariant-arcs l = record {
  search : IsSearch l.task.graph.now l.task.work.now l.task.late l.search.reached l.search.visits.items l.place;
  grows : Grows l.initial.search.reached l.search.reached l.initial.search.visits.items l.search.visits.items;
  past : PastArcs l.task.graph.now l.task.work.now l.task.late (node l.initial.search.visits.items l.place) l.search.reached l.number;
}
