use Rattle.std.proofs.Common.{◌≡◌, ◌≤◌, ℕ, None}
use Rattle.matroid_union.specs.Parts.{own_of, part, IsPacking}
use Rattle.matroid_union.specs.Growing.{AreFilled}
use Rattle.matroid_union.proofs.greedy.take_freely.Given as goal

abbrev pub invariant-loop-i : goal.invariant-loop-i
invariant-loop-i g l = record {
  first : l.first ≤ l.k;
  packing : IsPacking (g.M.Matroid.count l.matroid) (g.M.Matroid.free l.matroid) l.k (own_of l.owner);
  filled : AreFilled (g.M.Matroid.keeps l.matroid) g.M.Matroid.members (g.M.Matroid.count l.matroid) l.k (part (own_of l.owner)) l.whole;
  ahead : (e : ℕ) → l.i ≤ e → own_of l.owner e ≡ None;
}
