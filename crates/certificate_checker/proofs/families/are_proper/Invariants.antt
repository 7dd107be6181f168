use Rattle.std.proofs.Common.{All, take, length}
use Rattle.graph_core.specs.Side.{IsProper}
use Rattle.certificate_checker.proofs.families.are_proper.Given as goal

abbrev pub invariant-loop-side : goal.invariant-loop-side
invariant-loop-side l = All (λ X. IsProper (length X) X) (take l.side-index l.side-items)
