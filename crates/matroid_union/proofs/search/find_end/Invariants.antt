use Rattle.std.proofs.Common.{◌≡◌, ℕ, ◌<◌, ◌≤◌, ◌-◌, length, get_or}
use Rattle.matroid_union.specs.Growing.{AreFilled}
use Rattle.matroid_union.specs.Parts.{own_of, kept}
use Rattle.matroid_union.specs.Search.{IsShut, IsSearch}
use Rattle.matroid_union.proofs.search.find_end.Given as goal

abbrev pub invariant-places : goal.invariant-places
invariant-places g l = record {
  filled : AreFilled (g.M.Matroid.keeps l.matroid) g.M.Matroid.members (g.M.Matroid.count l.matroid) l.k (λ (p : ℕ). kept (own_of l.owner) l.search.reached p (g.M.Matroid.count l.matroid)) l.met.parts;
  trial : g.M.Matroid.keeps l.matroid l.met.trial;
  some : 0 < length l.search.queue.items;
  below : l.at ≤ length l.search.queue.items;
  shut : (i : ℕ) → i < l.tested → IsShut (g.M.Matroid.count l.matroid) (g.M.Matroid.free l.matroid) l.k (own_of l.owner) (get_or l.search.queue.items i 0);
  dead : l.search.dead ≡ l.initial.search.dead;
  search : IsSearch (g.M.Matroid.count l.matroid) (g.M.Matroid.free l.matroid) l.k (own_of l.owner) l.search.dead l.search.reached l.search.queue.items l.search.back.items l.at;
}

abbrev pub decreases-places : goal.decreases-places
decreases-places g l = g.M.Matroid.count l.matroid - l.at
