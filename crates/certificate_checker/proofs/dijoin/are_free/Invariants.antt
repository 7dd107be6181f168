use Rattle.std.proofs.Common.{◌≡◌, false, All, take}
use Rattle.graph_core.specs.Picked.{picked}
use Rattle.certificate_checker.proofs.dijoin.are_free.Given as goal

abbrev pub invariant-loop-j : goal.invariant-loop-j
invariant-loop-j l = All (λ x. x.fixed ≡ false) (picked l.graph.lines (take l.j-index l.row))
