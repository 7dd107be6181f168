use Rattle.lucchesi_younger.specs.Kept.{IsBuilt}
use Rattle.lucchesi_younger.proofs.dual.add_levels.Given as goal

abbrev pub invariant-levels : goal.invariant-levels
invariant-levels l = IsBuilt l.graph l.work l.at l.sides
