use Rattle.std.proofs.Common.{◌≡◌, ◌<◌, ℕ, Some, false}
use Rattle.std.specs.Prelude.{slice_get}
use Rattle.matroid_union.specs.Growing.{IsFilled, AreKept}
use Rattle.matroid_union.proofs.growing.clear_sets.Given as goal

abbrev pub invariant-loop-number : goal.invariant-loop-number
invariant-loop-number g l = record {
  all : AreKept (g.M.Matroid.keeps l.matroid) l.k l.sets;
  clear : (p : ℕ) (set : _) → p < l.number → slice_get l.sets p ≡ Some set → IsFilled (g.M.Matroid.keeps l.matroid) g.M.Matroid.members (g.M.Matroid.count l.matroid) (λ i. false) set;
}
