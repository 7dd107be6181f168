use Rattle.std.proofs.Common.{◌≡◌, length}
use Rattle.dicut_lattice.specs.Spread.{IsCommon}
use Rattle.dicut_lattice.proofs.kernel.meet_spreads.Given as goal

abbrev pub invariant-loop-skip : goal.invariant-loop-skip
invariant-loop-skip l = record {
  long : length l.work ≡ length l.initial.work;
  common : IsCommon l.reach l.arcs l.skip l.y l.into;
}
