use Rattle.matroid_union.specs.Parts.{own_of}
use Rattle.matroid_union.specs.Search.{IsShut}
use Rattle.matroid_union.proofs.ends.other_part_for.Given as goal

abbrev pub invariant-loop-number : goal.invariant-loop-number
invariant-loop-number g l = IsShut (g.M.Matroid.count l.matroid) (g.M.Matroid.free l.matroid) l.number (own_of l.owner) l.element
