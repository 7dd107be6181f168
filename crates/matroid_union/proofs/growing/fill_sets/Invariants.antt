use Rattle.std.proofs.Common.{ℕ}
use Rattle.matroid_union.specs.Parts.{own_of, kept}
use Rattle.matroid_union.specs.Growing.{AreFilled}
use Rattle.matroid_union.proofs.Filled.{front}
use Rattle.matroid_union.proofs.growing.fill_sets.Given as goal

abbrev pub invariant-loop-i : goal.invariant-loop-i
invariant-loop-i g l = AreFilled (g.M.Matroid.keeps l.matroid) g.M.Matroid.members (g.M.Matroid.count l.matroid) l.k (λ (p : ℕ). front (kept (own_of l.owner) l.reached p l.from) l.i) l.sets
