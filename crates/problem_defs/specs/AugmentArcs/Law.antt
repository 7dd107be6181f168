-- Weak duality of new arcs.
use Rattle.std.specs.Prelude.{ℕ, ◌+◌, ◌≤◌, Bool, List, ◌++◌, length, All, sum_by}
use Rattle.std.proofs.Common.{arith}
use Rattle.std.proofs.lemmas.List.{length-map}
use Rattle.std.proofs.lemmas.List.Sums.{sum_by-append}
use Rattle.std.proofs.lemmas.List.Elements.{All-weaker, All-append}
use Rattle.graph_core.specs.Limits.{node_room}
use Rattle.graph_core.specs.Graph.{GraphValue, IsGraph, Fits, line_of, lines_of}
use Rattle.graph_core.specs.Side.{IsProper}
use Rattle.graph_core.specs.Lines.{enters, leaves}
use Rattle.graph_core.specs.Families.{IsDisjointFamily, members_with}
use Rattle.graph_core.proofs.ConnectedLaws.{leaving-of_arc_connected}
use Rattle.graph_core.proofs.Counting.{weight, demand-le}
use Rattle.graph_core.proofs.FamilyLaws.{sum_by-entering-le, sum_by-leaving-le, length-disjoint_family}
use Rattle.graph_core.specs.Connected.{IsArcConnected}
use Rattle.graph_core.specs.declared.graph.Line.{Line}
use Rattle.problem_defs.specs.declared.cert.Way.{Way}
use Rattle.problem_defs.specs.declared.cert.Way.TheVariants.{Entering, Leaving}
use Rattle.problem_defs.specs.declared.cert.Family.{Family}
use Rattle.problem_defs.specs.AugmentArcs.{Suits, IsFeasible, IsDual, bound}
use Rattle.problem_defs.specs.Ways.{count_for}

-- so many members fit a number
pub few_members : (g : GraphValue) (dual : Family) → IsGraph g → IsDual g dual → length dual.sides ≤ node_room
few_members g dual ok d = omega (arith, length-disjoint_family (length g.names) dual.sides d, ok.makes.nodes)

-- the new arcs, counted by member
added-le : (way : Way) (n : ℕ) (P : List (List Bool)) → IsDisjointFamily n P → (new : List Line) → All (Fits n) new → sum_by (count_for way new) P ≤ length new
added-le Entering n P d new fit = sum_by-entering-le P new (All-weaker (Fits n) (λ l. members_with l.head P ≤ 1) (λ l f. d.disjoint l.head f.head) new fit)
added-le Leaving n P d new fit = sum_by-leaving-le P new (All-weaker (Fits n) (λ l. members_with l.tail P ≤ 1) (λ l f. d.disjoint l.tail f.tail) new fit)

-- what each member has of old and new arcs
covered : (way : Way) (k n : ℕ) (old new : List Line) → All (Fits n) old → All (Fits n) new → IsArcConnected k n (old ++ new) → (X : List Bool) → IsProper n X → k ≤ count_for way old X + count_for way new X
covered Entering k n old new fo fn c X p = omega (arith, c X p, sum_by-append (λ l. weight (enters X l)) old new)
covered Leaving k n old new fo fn c X p = omega (arith, leaving-of_arc_connected k n (old ++ new) (All-append (Fits n) old new fo fn) c X p, sum_by-append (λ l. weight (leaves X l)) old new)

pub law : (k : ℕ) (g : GraphValue) (pairs : List (ℕ × ℕ)) (dual : Family) → IsGraph g → Suits k g → IsFeasible k g pairs → IsDual g dual → bound k g dual ≤ length pairs
law k g pairs dual ok u f d =
    demand-le k (count_for dual.way g.lines) (count_for dual.way (lines_of pairs)) dual.sides (length pairs)
    (All-weaker (IsProper (length g.names)) (λ X. k ≤ count_for dual.way g.lines X + count_for dual.way (lines_of pairs) X)
    (λ X p. covered dual.way k (length g.names) g.lines (lines_of pairs) ok.makes.ends f.fit f.connected X p) dual.sides d.proper)
    (omega (arith, added-le dual.way (length g.names) dual.sides d (lines_of pairs) f.fit, length-map pairs line_of))
