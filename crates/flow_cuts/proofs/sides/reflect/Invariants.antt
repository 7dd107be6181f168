use Rattle.std.proofs.Common.{◌≡◌, take}
use Rattle.std.specs.Prelude.{map}
use Rattle.flow_cuts.specs.Residual.{mirrored}
use Rattle.flow_cuts.proofs.sides.reflect.Given as goal

abbrev pub invariant-loop-i : goal.invariant-loop-i
invariant-loop-i l = take l.i l.mirror ≡ map mirrored (take l.i l.links)
