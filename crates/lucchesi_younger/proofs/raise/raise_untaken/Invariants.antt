use Rattle.std.proofs.Common.{◌≡◌, ◌≤◌, ℕ}
use Rattle.lucchesi_younger.specs.Kept.{at, AllKept}
use Rattle.lucchesi_younger.specs.Spent.{AreRisen}
use Rattle.lucchesi_younger.proofs.raise.raise_untaken.Given as goal

abbrev pub invariant-arcs : goal.invariant-arcs
invariant-arcs l = record {
  kept : AllKept l.graph l.work;
  within : (j : ℕ) → at l.work.costs j ≤ at l.costs j;
  risen : AreRisen l.graph.lines l.initial.work.join l.costs l.number l.initial.work.costs l.work.costs;
  join : l.work.join ≡ l.initial.work.join;
}
