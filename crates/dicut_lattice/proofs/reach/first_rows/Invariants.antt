use Rattle.std.proofs.Common.{take}
use Rattle.dicut_lattice.specs.Reach.{AreRows}
use Rattle.dicut_lattice.proofs.reach.first_rows.Given as goal

abbrev pub invariant-loop-line : goal.invariant-loop-line
invariant-loop-line l = AreRows l.graph (take l.line-index l.line-items) l.rows
