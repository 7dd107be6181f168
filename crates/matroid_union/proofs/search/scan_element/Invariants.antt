use Rattle.std.proofs.Common.{◌≡◌, ℕ, get_or}
use Rattle.matroid_union.specs.Growing.{AreFilled}
use Rattle.matroid_union.specs.Parts.{own_of, kept}
use Rattle.matroid_union.specs.Search.{Begins, IsSearch, IsFull}
use Rattle.matroid_union.proofs.search.scan_element.Given as goal

abbrev pub invariant-loop-number : goal.invariant-loop-number
invariant-loop-number g l = record {
  filled : AreFilled (g.M.Matroid.keeps l.matroid) g.M.Matroid.members (g.M.Matroid.count l.matroid) l.k (λ (p : ℕ). kept (own_of l.owner) l.search.reached p (g.M.Matroid.count l.matroid)) l.met.parts;
  trial : g.M.Matroid.keeps l.matroid l.met.trial;
  dead : l.search.dead ≡ l.initial.search.dead;
  begins : Begins l.initial.search.queue.items l.search.queue.items;
  search : IsSearch (g.M.Matroid.count l.matroid) (g.M.Matroid.free l.matroid) l.k (own_of l.owner) l.search.dead l.search.reached l.search.queue.items l.search.back.items l.at;
  passed : IsFull (g.M.Matroid.count l.matroid) (g.M.Matroid.free l.matroid) l.number (own_of l.owner) l.search.reached (get_or l.search.queue.items l.at 0);
}
