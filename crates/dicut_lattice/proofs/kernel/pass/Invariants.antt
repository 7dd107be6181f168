use Rattle.std.proofs.Common.{length}
use Rattle.dicut_lattice.specs.Spread.{IsCounted, HasPassed}
use Rattle.dicut_lattice.proofs.kernel.pass.Given as goal

abbrev pub invariant-loop-seen : goal.invariant-loop-seen
invariant-loop-seen l = HasPassed l.reach l.arcs l.skip (IsCounted l.last (length l.arcs) l.seen) l.initial.into l.grew l.into
