use Rattle.std.proofs.Common.{All, take}
use Rattle.certificate_checker.specs.Dicuts.{IsLetBy}
use Rattle.certificate_checker.proofs.dijoin.are_let_by.Given as goal

abbrev pub invariant-loop-line : goal.invariant-loop-line
invariant-loop-line l = All (IsLetBy l.side) (take l.line-index l.line-items)
