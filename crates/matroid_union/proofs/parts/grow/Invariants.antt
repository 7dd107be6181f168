use Rattle.std.proofs.Common.{◌≡◌, ◌+◌, ◌-◌, length}
use Rattle.graph_core.specs.Side.{size}
use Rattle.matroid_union.specs.Growing.{AreKept, AreFilled}
use Rattle.matroid_union.specs.Parts.{own_of, part, spare, IsPacking}
use Rattle.matroid_union.specs.Search.{AreDead}
use Rattle.matroid_union.proofs.parts.grow.Given as goal

abbrev pub invariant-grow : goal.invariant-grow
invariant-grow g l = record {
  filled : AreFilled (g.M.Matroid.keeps l.matroid) g.M.Matroid.members (g.M.Matroid.count l.matroid) l.k (part (own_of l.owner)) l.whole;
  met : AreKept (g.M.Matroid.keeps l.matroid) l.k l.met.parts;
  trial : g.M.Matroid.keeps l.matroid l.met.trial;
  reached : length l.search.reached ≡ g.M.Matroid.count l.matroid;
  packing : IsPacking (g.M.Matroid.count l.matroid) (g.M.Matroid.free l.matroid) l.k (own_of l.owner);
  dead : AreDead (g.M.Matroid.count l.matroid) (g.M.Matroid.free l.matroid) l.k (own_of l.owner) l.search.dead;
}

abbrev pub decreases-grow : goal.decreases-grow
decreases-grow g l = spare l.owner + (g.M.Matroid.count l.matroid - size l.search.dead)
