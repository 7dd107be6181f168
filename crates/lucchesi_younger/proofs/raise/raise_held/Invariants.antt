use Rattle.std.proofs.Common.{◌≡◌, ◌≤◌, sum}
use Rattle.lucchesi_younger.specs.Kept.{AllKept}
use Rattle.lucchesi_younger.specs.Spent.{IsSpent}
use Rattle.lucchesi_younger.proofs.raise.raise_held.Given as goal

abbrev pub invariant-arcs : goal.invariant-arcs
invariant-arcs l = record {
  kept : AllKept l.graph l.work;
  spent : IsSpent l.graph.lines l.costs l.number l.work.costs;
  sums : sum l.initial.work.costs ≤ sum l.work.costs;
  join : l.work.join ≡ l.initial.work.join;
  held : l.held.kernels ≡ l.initial.held.kernels;
}
