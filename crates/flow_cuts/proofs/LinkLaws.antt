-- Arcs and lines of a graph as links.
use Rattle.std.proofs.Common.{◌≡◌, ◌∙◌, ℕ, suc, zero, ◌+◌, ◌<◌, ◌≤◌, ◌^◌, List, [], ◌∷◌, ◌++◌, length, get_or, refl, ap, arith, inl, inr}
use Rattle.std.specs.Prelude.{map, All, Bool, true, false}
use Rattle.std.proofs.lemmas.List.Sums.{sum_by-cons, sum_by-append}
use Rattle.std.proofs.lemmas.Grind.{common_steps}
use Rattle.std.proofs.lemmas.List.{length-map, get_or-map}
use Rattle.flow_cuts.specs.declared.network.Cap.{Cap}
use Rattle.flow_cuts.specs.declared.network.Link.{Link}
use Rattle.flow_cuts.specs.declared.network.Step.{Step}
use Rattle.flow_cuts.specs.declared.network.Way.{Way}
use Rattle.flow_cuts.specs.declared.network.Way.TheVariants.{Forth, Back}
use Rattle.graph_core.specs.Side.{has}
use Rattle.graph_core.specs.Graph.{Fits}
use Rattle.graph_core.specs.declared.graph.Kind.{Kind}
use Rattle.graph_core.specs.declared.graph.Kind.TheVariants.{Undirected, Directed}
use Rattle.graph_core.specs.declared.graph.Line.{Line}
use Rattle.flow_cuts.specs.Network.{across, leaving, capacity}
use Rattle.flow_cuts.specs.GraphArcs.{unit_arc, arcs_along, arcs_of}
use Rattle.flow_cuts.specs.LinkWalks.{AreUnits}
use Rattle.flow_cuts.specs.Residual.{from_of, to_of, link_at, no_link, from_at, to_at, EachFits, link_of, arc_along, link_along, room_out, room_leaving, AreLinksOf}
use Rattle.flow_cuts.proofs.SearchTrees.{eq_or_not}

pub EachFits-push : (ls : List Link) (l : Link) → EachFits ls → l.forth + l.back < 2 ^ 32 → EachFits (ls ++ l ∷ [])
EachFits-push ls l f fits = record {
  at = λ j lt. elim (eq_or_not j (length ls)) [
    | inl e ↦
        let at : link_at (ls ++ l ∷ []) j ≡ l = grind (arith, common_steps) in
        let sum = ap (λ x. x.forth + x.back) at in
        omega arith
    | inr e ↦
        let below : j < length ls = grind (arith, common_steps) in
        let at : link_at (ls ++ l ∷ []) j ≡ link_at ls j = grind (arith, common_steps) in
        let sum = ap (λ x. x.forth + x.back) at in
        omega (arith, f.at j below)
  ];
}

both_below : (n : ℕ) (l : Link) (w : Way) → (l.tail < n) × (l.head < n) → (from_of l w < n) × (to_of l w < n)
both_below n l Forth h = h
both_below n l Back h = (h.1, h.0)

-- the arcs as links, and back
pub arc_along-link_of : (arcs : List Cap) → map arc_along (map link_of arcs) ≡ arcs
arc_along-link_of [] = refl
arc_along-link_of (a ∷ arcs) = ap (λ rest. a ∷ rest) (arc_along-link_of arcs)

across-none : (a b : Bool) → across a b 0 ≡ 0
across-none true true = refl
across-none true false = refl
across-none false b = refl

pub AreLinksOf-arcs : (arcs : List Cap) → AreLinksOf arcs (map link_of arcs)
AreLinksOf-arcs arcs = record { leaves = λ X. sums X arcs }
  where
    sums : (X : List Bool) (xs : List Cap) → room_leaving X (map link_of xs) ≡ capacity X xs
    sums X [] = refl
    sums X (a ∷ xs) = omega (arith, sum_by-cons (room_out X) (link_of a) (map link_of xs), sum_by-cons (leaving X) a xs, sums X xs, across-none (has X a.head) (has X a.tail))

along-both : (k : Kind) (X : List Bool) (l : Line) → room_out X (link_along k l) ≡ capacity X (arcs_along k l)
along-both Undirected X l = omega (arith, sum_by-cons (leaving X) (unit_arc l.tail l.head) (unit_arc l.head l.tail ∷ []), sum_by-cons (leaving X) (unit_arc l.head l.tail) [])
along-both Directed X l = omega (arith, sum_by-cons (leaving X) (unit_arc l.tail l.head) [], across-none (has X l.head) (has X l.tail))

pub AreLinksOf-graph : (k : Kind) (ls : List Line) → AreLinksOf (arcs_of k ls) (map (link_along k) ls)
AreLinksOf-graph k ls = record { leaves = λ X. sums X ls }
  where
    sums : (X : List Bool) (xs : List Line) → room_leaving X (map (link_along k) xs) ≡ capacity X (arcs_of k xs)
    sums X [] = refl
    sums X (l ∷ xs) = omega (arith, sum_by-cons (room_out X) (link_along k l) (map (link_along k) xs), sum_by-append (leaving X) (arcs_along k l) (arcs_of k xs), sums X xs, along-both k X l)

-- the ends of links are ends of what they were made of
pub link_ends : {A : Type 0} (n : ℕ) (f : A → Link) (xs : List A) (ls : List Link) (d : A) → ls ≡ map f xs →
    All (λ a. ((f a).tail < n) × ((f a).head < n)) xs → (s : Step) → s.link < length ls → (from_at ls s < n) × (to_at ls s < n)
link_ends n f xs ls d is h s lt =
    let below : s.link < length xs = let e = ap length is in let g = length-map xs f in omega arith in
    let at : link_at ls s.link ≡ f (get_or xs s.link d) = ap (λ x. link_at x s.link) is ∙ get_or-map f xs s.link d no_link below in
    let both = both_below n (f (get_or xs s.link d)) s.way (h s.link d below) in
    let from = ap (λ l. from_of l s.way) at in
    let to = ap (λ l. to_of l s.way) at in
    (omega (arith, both.0), omega (arith, both.1))

pub graph_ends : (n : ℕ) (k : Kind) (ls : List Line) → All (Fits n) ls → All (λ l. ((link_along k l).tail < n) × ((link_along k l).head < n)) ls
graph_ends n Undirected ls h = λ i d lt. ((h i d lt).tail, (h i d lt).head)
graph_ends n Directed ls h = λ i d lt. ((h i d lt).tail, (h i d lt).head)

pub AreUnits-graph : (k : Kind) (ls : List Line) → AreUnits (map (link_along k) ls)
AreUnits-graph k ls = record { forth = λ j. (units k ls j).0; back = λ j. (units k ls j).1 }
  where
    units : (k : Kind) (xs : List Line) (j : ℕ) → ((link_at (map (link_along k) xs) j).forth ≤ 1) × ((link_at (map (link_along k) xs) j).back ≤ 1)
    units k [] j = (omega arith, omega arith)
    units Undirected (l ∷ xs) zero = (omega arith, omega arith)
    units Directed (l ∷ xs) zero = (omega arith, omega arith)
    units k (l ∷ xs) (suc j) = units k xs j
