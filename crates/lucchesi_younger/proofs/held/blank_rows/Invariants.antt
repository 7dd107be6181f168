use Rattle.std.proofs.Common.{◌≡◌, replicate}
use Rattle.std.specs.Prelude.{None}
use Rattle.lucchesi_younger.proofs.held.blank_rows.Given as goal

abbrev pub invariant-nodes : goal.invariant-nodes
invariant-nodes l = l.rows ≡ replicate l.node None
