use Rattle.std.proofs.Common.{◌-◌, length}
use Rattle.graph_core.specs.Side.{size}
use Rattle.dicut_lattice.specs.Spread.{IsSpreading}
use Rattle.dicut_lattice.proofs.kernel.spread.Given as goal

abbrev pub invariant-loop : goal.invariant-loop
invariant-loop l = IsSpreading l.reach l.arcs l.skip l.y l.into

abbrev pub decreases-loop : goal.decreases-loop
decreases-loop l = length l.into - size l.into
