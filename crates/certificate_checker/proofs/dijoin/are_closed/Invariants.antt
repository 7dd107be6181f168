use Rattle.std.proofs.Common.{All, take}
use Rattle.problem_defs.specs.Dijoin.{IsClosed}
use Rattle.certificate_checker.proofs.dijoin.are_closed.Given as goal

abbrev pub invariant-loop-side : goal.invariant-loop-side
invariant-loop-side l = All (IsClosed l.graph) (take l.side-index l.sides)
