use Rattle.std.proofs.Common.{◌≡◌, ◌<◌, ◌-◌, ℕ, get_or, length}
use Rattle.matroid_union.specs.Growing.{AreFilled}
use Rattle.matroid_union.specs.Parts.{own_of, kept}
use Rattle.matroid_union.specs.Search.{IsSearch, IsFull, Begins}
use Rattle.matroid_union.proofs.search.scan_part.Given as goal

abbrev pub invariant-reach : goal.invariant-reach
invariant-reach g l = record {
  filled : AreFilled (g.M.Matroid.keeps l.matroid) g.M.Matroid.members (g.M.Matroid.count l.matroid) l.k (λ (p : ℕ). kept (own_of l.owner) l.search.reached p (g.M.Matroid.count l.matroid)) l.met.parts;
  trial : g.M.Matroid.keeps l.matroid l.met.trial;
  begins : Begins l.initial.search.queue.items l.search.queue.items;
  place : l.at < length l.search.queue.items;
  element : get_or l.search.queue.items l.at 0 ≡ l.element;
  search : IsSearch (g.M.Matroid.count l.matroid) (g.M.Matroid.free l.matroid) l.k (own_of l.owner) l.search.dead l.search.reached l.search.queue.items l.search.back.items l.at;
  passed : IsFull (g.M.Matroid.count l.matroid) (g.M.Matroid.free l.matroid) l.number (own_of l.owner) l.search.reached l.element;
  dead : l.search.dead ≡ l.initial.search.dead;
}

abbrev pub decreases-reach : goal.decreases-reach
decreases-reach g l = g.M.Matroid.count l.matroid - length l.search.queue.items
