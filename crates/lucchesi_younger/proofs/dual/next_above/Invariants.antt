use Rattle.std.proofs.Common.{ℕ, ◌≡◌, ◌⊎◌, ◌<◌, ◌≤◌}
use Rattle.lucchesi_younger.specs.Kept.{at}
use Rattle.lucchesi_younger.proofs.dual.next_above.Given as goal

abbrev pub invariant-counts : goal.invariant-counts
invariant-counts l = record {
  more : l.below < l.least;
  least : (k : ℕ) → k < l.count-index → l.below < at l.items k → l.least ≤ at l.items k;
  reached : (l.least ≡ l.most) ⊎ ((k : ℕ) × (at l.items k ≡ l.least));
}
