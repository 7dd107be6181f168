use Rattle.std.proofs.Common.{take}
use Rattle.certificate_checker.specs.Copies.{Writes}
use Rattle.certificate_checker.proofs.copies.Copies.arcs.Given as goal

abbrev pub invariant-loop-place : goal.invariant-loop-place
invariant-loop-place l = Writes l.self.n l.arcs.items (take l.place l.self.table.items)
