use Rattle.dicut_lattice.specs.Reach.{AreOwn}
use Rattle.dicut_lattice.proofs.reach.own_rows.Given as goal

abbrev pub invariant-loop-v : goal.invariant-loop-v
invariant-loop-v l = AreOwn l.n l.v l.rows
