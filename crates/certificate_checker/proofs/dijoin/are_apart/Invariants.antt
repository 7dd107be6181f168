use Rattle.std.proofs.Common.{All, take}
use Rattle.certificate_checker.specs.Dicuts.{IsApart}
use Rattle.certificate_checker.proofs.dijoin.are_apart.Given as goal

abbrev pub invariant-loop-line : goal.invariant-loop-line
invariant-loop-line l = All (IsApart l.sides) (take l.line-index l.line-items)
