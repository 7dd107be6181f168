-- Walks along the links of a graph are walks along its lines.
use Rattle.std.proofs.Common.{◌≡◌, ◌≢◌, ℕ, zero, suc, ◌<◌, List, [], ◌∷◌, length, refl, ap, arith, inl, inr}
use Rattle.std.specs.Prelude.{map, slice_index_or, cond, ◌==◌}
use Rattle.graph_core.specs.Walks.{Leads, LeadsAt, IsWay}
use Rattle.graph_core.specs.declared.graph.Kind.{Kind}
use Rattle.graph_core.specs.declared.graph.Kind.TheVariants.{Undirected, Directed}
use Rattle.graph_core.specs.declared.graph.Line.{Line}
use Rattle.graph_core.proofs.Counting.{sum_by-concat}
use Rattle.flow_cuts.specs.declared.network.Way.{Way}
use Rattle.flow_cuts.specs.declared.network.Way.TheVariants.{Forth, Back}
use Rattle.flow_cuts.specs.Flow.{Origin, AreWalks}
use Rattle.flow_cuts.specs.LinkWalks.{Joins, IsLinkWalk, AreLinkWalks}
use Rattle.flow_cuts.specs.Residual.{link_along, link_at, room_of, from_of, to_of}

leads_by : (k : Kind) (l : Line) (u v : ℕ) (w : Way) → 0 < room_of (link_along k l) w → from_of (link_along k l) w ≡ u → to_of (link_along k l) w ≡ v → Leads k l u v
leads_by Undirected l u v Forth room from to = inl (from, to)
leads_by Undirected l u v Back room from to = inr (to, from)
leads_by Directed l u v Forth room from to = (from, to)
leads_by Directed l u v Back room from to = absurd (omega arith)

LeadsAt-joins : (k : Kind) (ls : List Line) (j u v : ℕ) → j < length ls → Joins (link_at (map (link_along k) ls) j) u v → LeadsAt k ls j u v
LeadsAt-joins k [] j u v lt joins = absurd (omega arith)
LeadsAt-joins k (l ∷ ls) zero u v lt (w, room, from, to) = (l, refl, leads_by k l u v w room from to)
LeadsAt-joins k (l ∷ ls) (suc j) u v lt joins = LeadsAt-joins k ls j u v (omega arith) joins

length-along : (k : Kind) (ls : List Line) → length (map (link_along k) ls) ≡ length ls
length-along k [] = refl
length-along k (l ∷ ls) = ap suc (length-along k ls)

IsWay-links : (k : Kind) (ls : List Line) (u t : ℕ) (w : List ℕ) → IsLinkWalk (map (link_along k) ls) u t w → IsWay k ls u t w
IsWay-links k ls u t [] is = is
IsWay-links k ls u t (j ∷ w) (v, lt, joins, rest) = (v, LeadsAt-joins k ls j u v (omega (arith, length-along k ls)) joins, IsWay-links k ls v t w rest)

nonempty : (k : Kind) (ls : List Line) (s t : ℕ) (w : List ℕ) → s ≢ t → IsWay k ls s t w → w ≢ []
nonempty k ls s t [] apart way e = apart way
nonempty k ls s t (j ∷ w) apart way e = cc

pub AreWalks-links : (g : Origin) (s t count : ℕ) (walks : List (List ℕ)) → s ≢ t → AreLinkWalks (map (link_along g.kind) g.lines) s t count walks → AreWalks g s t count walks
AreWalks-links g s t count walks apart are = record {
  many = are.many;
  each = λ i d lt.
      let way = IsWay-links g.kind g.lines s t (slice_index_or walks i d) (are.each i d lt) in
      record { nonempty = nonempty g.kind g.lines s t (slice_index_or walks i d) apart way; way = way };
  disjoint = λ j. omega (arith, sum_by-concat (λ i. cond (i == j) 1 0) walks, are.disjoint j);
}
