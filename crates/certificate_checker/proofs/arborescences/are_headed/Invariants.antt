use Rattle.std.proofs.Common.{All, take, length}
use Rattle.graph_core.specs.Picked.{picked}
use Rattle.certificate_checker.specs.Heads.{IsHeaded}
use Rattle.certificate_checker.proofs.arborescences.are_headed.Given as goal

abbrev pub invariant-loop-row : goal.invariant-loop-row
invariant-loop-row l = All (λ row. IsHeaded (length l.graph.names) l.root (picked l.graph.lines row)) (take l.row-index l.rows)
