use Rattle.std.proofs.Common.{◌≡◌, ℕ, ◌<◌, ◌≤◌, length}
use Rattle.dicut_lattice.specs.Reach.{leads, leads_by, AreSquare}
use Rattle.dicut_lattice.proofs.reach.lead_on.Given as goal

abbrev pub invariant-loop-v : goal.invariant-loop-v
invariant-loop-v l = record {
  square : AreSquare (length l.initial.rows) l.rows;
  done : (u w : ℕ) → u < l.v → leads l.rows u w ≡ leads_by l.k l.initial.rows u w;
  left : (u w : ℕ) → l.v ≤ u → leads l.rows u w ≡ leads l.initial.rows u w;
}
