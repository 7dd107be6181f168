-- Refused arcs stay refused.
use Rattle.std.specs.Prelude.{ℕ, ◌<◌, Bool, List}
use Rattle.std.proofs.Common.{ap, ◌∙◌, arith}
use Rattle.graph_core.specs.Side.{has}
use Rattle.flow_cuts.specs.declared.network.Cap.{Cap}
use Rattle.edmonds_branchings.specs.Network.{cap_at, taken}
use Rattle.edmonds_branchings.specs.Round.{AreRefused}
use Rattle.edmonds_branchings.proofs.Capacity.{capacity-taken, tail-taken, head-taken}

-- a critical side stays critical when an arc is taken
pub refused_taken : (n k : ℕ) (arcs : List Cap) (R : List Bool) (j : ℕ) → 0 < (cap_at arcs j).cap → AreRefused n k arcs R → AreRefused n k (taken arcs j) R
refused_taken n k arcs R j left old i h =
    let b = old i h in
    record {
      side = b.side;
      rootless = b.rootless;
      tail = ap (has b.side) (tail-taken arcs j left i) ∙ b.tail;
      head = ap (has b.side) (head-taken arcs j left i) ∙ b.head;
      critical = omega (arith, capacity-taken arcs j left b.side, b.critical);
    }
