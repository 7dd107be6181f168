-- The capacity that leaves a side of a graph is the number of lines by which one can leave it.
use Rattle.std.proofs.Common.{ℕ, ◌≡◌, ◌+◌, ◌*◌, List, [], ◌∷◌, Bool, true, false, refl, arith}
use Rattle.std.specs.Prelude.{count_by}
use Rattle.std.proofs.lemmas.List.Sums.{sum_by-cons, sum_by-append}
use Rattle.graph_core.specs.Side.{has}
use Rattle.graph_core.specs.Lines.{differ, cut_by}
use Rattle.graph_core.specs.declared.graph.Kind.{Kind}
use Rattle.graph_core.specs.declared.graph.Kind.TheVariants.{Undirected, Directed}
use Rattle.graph_core.specs.declared.graph.Line.{Line}
use Rattle.graph_core.proofs.Counting.{weight}
use Rattle.flow_cuts.specs.Network.{across, leaving, capacity}
use Rattle.flow_cuts.specs.GraphArcs.{unit_arc, arcs_along, arcs_of}

-- q arcs each way
pub both_across : (a b : Bool) (q : ℕ) → across a b q + across b a q ≡ q * weight (differ a b)
both_across true true q = omega arith
both_across true false q = omega arith
both_across false true q = omega arith
both_across false false q = omega arith

capacity-arcs_along : (k : Kind) (X : List Bool) (l : Line) → capacity X (arcs_along k l) ≡ weight (cut_by k X l)
capacity-arcs_along Undirected X l =
    omega (arith, sum_by-cons (leaving X) (unit_arc l.tail l.head) (unit_arc l.head l.tail ∷ []), sum_by-cons (leaving X) (unit_arc l.head l.tail) [], both_across (has X l.tail) (has X l.head) 1)
capacity-arcs_along Directed X l = omega (arith, sum_by-cons (leaving X) (unit_arc l.tail l.head) [])

-- d(X), or δ(X) in a digraph
pub capacity-arcs_of : (k : Kind) (X : List Bool) (ls : List Line) → capacity X (arcs_of k ls) ≡ count_by (cut_by k X) ls
capacity-arcs_of k X [] = refl
capacity-arcs_of k X (l ∷ ls) =
    omega (arith, sum_by-append (leaving X) (arcs_along k l) (arcs_of k ls), capacity-arcs_along k X l, capacity-arcs_of k X ls, sum_by-cons (λ x. weight (cut_by k X x)) l ls)
