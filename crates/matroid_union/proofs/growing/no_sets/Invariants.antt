use Rattle.std.proofs.Common.{false}
use Rattle.matroid_union.specs.Growing.{AreFilled}
use Rattle.matroid_union.proofs.growing.no_sets.Given as goal

abbrev pub invariant-loop : goal.invariant-loop
invariant-loop g l = AreFilled (g.M.Matroid.keeps l.matroid) g.M.Matroid.members (g.M.Matroid.count l.matroid) l.counter (λ p i. false) l.sets
