use Rattle.std.proofs.Common.{◌≡◌, ◌-◌}
use Rattle.lucchesi_younger.specs.Kept.{IsBuilt}
use Rattle.lucchesi_younger.proofs.dual.all_pieces.Given as goal

abbrev pub invariant-levels : goal.invariant-levels
invariant-levels l = record {
  tight : l.tight ≡ l.initial.tight;
  built : IsBuilt l.graph l.work l.below l.sides;
}

abbrev pub decreases-levels : goal.decreases-levels
decreases-levels l = l.most - l.below
