use Rattle.matroid_union.specs.Parts.{own_of, kept}
use Rattle.matroid_union.specs.Growing.{IsFilled}
use Rattle.matroid_union.proofs.Filled.{front}
use Rattle.matroid_union.proofs.growing.fill_set.Given as goal

abbrev pub invariant-loop-i : goal.invariant-loop-i
invariant-loop-i g l = IsFilled (g.M.Matroid.keeps l.matroid) g.M.Matroid.members (g.M.Matroid.count l.matroid) (front (kept (own_of l.owner) l.reached l.number l.from) l.i) l.set
