use Rattle.std.proofs.Common.{◌+◌, ◌-◌, ◌≤◌, length, sum}
use Rattle.lucchesi_younger.specs.Kept.{AllKept}
use Rattle.lucchesi_younger.specs.Spent.{IsSpent}
use Rattle.lucchesi_younger.proofs.raise.raise_all.Given as goal

abbrev pub invariant-joins : goal.invariant-joins
invariant-joins l = record {
  kept : AllKept l.graph l.work;
  below : l.number ≤ length l.graph.lines;
  spent : IsSpent l.graph.lines l.costs l.number l.work.costs;
}

abbrev pub decreases-joins : goal.decreases-joins
decreases-joins l = (length l.graph.lines + sum l.costs) - (l.number + sum l.work.costs)
