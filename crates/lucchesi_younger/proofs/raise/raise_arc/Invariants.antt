use Rattle.std.proofs.Common.{◌≡◌, ◌≢◌, ◌+◌, ◌≤◌, ℕ, sum}
use Rattle.lucchesi_younger.specs.Kept.{at, AllKept, IsIn}
use Rattle.lucchesi_younger.proofs.raise.raise_arc.Given as goal

abbrev pub invariant-units : goal.invariant-units
invariant-units l = record {
  kept : AllKept l.graph l.work;
  here : at l.work.costs l.number ≡ l.unit;
  others : (j : ℕ) → j ≢ l.number → at l.work.costs j ≡ at l.initial.work.costs j;
  sums : sum l.work.costs + at l.initial.work.costs l.number ≡ sum l.initial.work.costs + l.unit;
  from : at l.initial.work.costs l.number ≤ l.unit;
  join : l.work.join ≡ l.initial.work.join;
  held : l.held.kernels ≡ l.initial.held.kernels;
  taken : IsIn l.work.join l.number;
}
