-- The capacity that leaves a side of a network with a new node.
use Rattle.std.specs.Prelude.{ℕ, zero, suc, ◌≡◌, ◌+◌, ◌*◌, ◌<◌, ◌≤◌, ◌&&◌, not, Bool, true, false, cond, List, [], ◌∷◌, ◌++◌, length, map, slice_index, slice_index_or, All, refl}
use Rattle.std.proofs.Common.{sym, ap, ◌∙◌, inl, inr, arith}
use Rattle.std.proofs.lemmas.Bool.{cases_lt, cases_eq}
use Rattle.std.proofs.lemmas.List.{get_or_past, length-map}
use Rattle.std.proofs.lemmas.List.Elements.{All-nil, All-cons, All-head, All-tail, All-map, All-weaker}
use Rattle.std.proofs.lemmas.List.Sums.{sum_by-cons, sum_by-append}
use Rattle.graph_core.specs.Graph.{Fits}
use Rattle.graph_core.specs.Side.{has, sum_over}
use Rattle.graph_core.proofs.Counting.{weight, sum_by-agree}
use Rattle.graph_core.proofs.NodeLaws.{nodes_none}
use Rattle.graph_core.specs.declared.graph.Kind.TheVariants.{Undirected}
use Rattle.graph_core.specs.declared.graph.Line.{Line}
use Rattle.problem_defs.specs.Ways.{count_for}
use Rattle.problem_defs.specs.declared.cert.Way.{Way}
use Rattle.problem_defs.specs.declared.cert.Way.TheVariants.{Entering, Leaving}
use Rattle.flow_cuts.specs.declared.network.Cap.{Cap}
use Rattle.flow_cuts.specs.Network.{across, leaving, capacity}
use Rattle.flow_cuts.specs.GraphArcs.{unit_arc, arcs_of}
use Rattle.flow_cuts.specs.NewNode.{arc_by, count_arcs, with_new_node, value_with, AreArcs}

-- an arc more behind those of the nodes before
pub count_arcs-push : (z v : ℕ) (cs : List ℕ) (c : ℕ) → count_arcs z v (cs ++ c ∷ []) ≡ count_arcs z v cs ++ record { tail = v + length cs; head = z; cap = c } ∷ []
count_arcs-push z v [] c = let e : v ≡ v + 0 = omega arith in ap (λ u. record { tail = u; head = z; cap = c } ∷ []) e
count_arcs-push z v (x ∷ cs) c =
    let e : suc v + length cs ≡ v + length (x ∷ cs) = omega arith in
    ap (λ rest. record { tail = v; head = z; cap = x } ∷ rest) (count_arcs-push z (suc v) cs c)
    ∙ ap (λ u. record { tail = v; head = z; cap = x } ∷ (count_arcs z (suc v) cs ++ record { tail = u; head = z; cap = c } ∷ [])) e

pub length-count_arcs : (z v : ℕ) (cs : List ℕ) → length (count_arcs z v cs) ≡ length cs
length-count_arcs z v [] = refl
length-count_arcs z v (c ∷ cs) = ap suc (length-count_arcs z (suc v) cs)

pub ends-count_arcs : (n z v : ℕ) (cs : List ℕ) → z < n → v + length cs < n + 1 → All (λ a. (a.tail < n) × (a.head < n)) (count_arcs z v cs)
ends-count_arcs n z v [] l m = All-nil (λ a. (a.tail < n) × (a.head < n))
ends-count_arcs n z v (c ∷ cs) l m =
    All-cons (λ a. (a.tail < n) × (a.head < n)) (record { tail = v; head = z; cap = c }) (count_arcs z (suc v) cs) (omega arith, l) (ends-count_arcs n z (suc v) cs l (omega arith))

across_weight : (a b : Bool) → across a b 1 ≡ weight (a && not b)
across_weight true true = refl
across_weight true false = refl
across_weight false b = refl

-- over the arcs of a way ρ or δ leaves a side
pub capacity-arcs_by : (way : Way) (X : List Bool) (ls : List Line) → capacity X (map (arc_by way) ls) ≡ count_for way ls X
capacity-arcs_by Entering X [] = refl
capacity-arcs_by Entering X (l ∷ ls) =
    omega (arith, sum_by-cons (leaving X) (arc_by Entering l) (map (arc_by Entering) ls), sum_by-cons (λ x. weight (has X x.head && not (has X x.tail))) l ls, across_weight (has X l.head) (has X l.tail), capacity-arcs_by Entering X ls)
capacity-arcs_by Leaving X [] = refl
capacity-arcs_by Leaving X (l ∷ ls) =
    omega (arith, sum_by-cons (leaving X) (arc_by Leaving l) (map (arc_by Leaving) ls), sum_by-cons (λ x. weight (has X x.tail && not (has X x.head))) l ls, across_weight (has X l.tail) (has X l.head), capacity-arcs_by Leaving X ls)

pub ends-arcs_by : (way : Way) {n : ℕ} (ls : List Line) → All (Fits n) ls → All (λ a. (a.tail < n) × (a.head < n)) (map (arc_by way) ls)
ends-arcs_by Entering {n} ls fits = All-map (λ a. (a.tail < n) × (a.head < n)) (arc_by Entering) ls (All-weaker (Fits n) (λ l. (l.head < n) × (l.tail < n)) (λ l f. (f.head, f.tail)) ls fits)
ends-arcs_by Leaving {n} ls fits = All-map (λ a. (a.tail < n) × (a.head < n)) (arc_by Leaving) ls (All-weaker (Fits n) (λ l. (l.tail < n) × (l.head < n)) (λ l f. (f.tail, f.head)) ls fits)

-- sides with the same nodes
pub capacity-same : (X Y : List Bool) → ((v : ℕ) → has X v ≡ has Y v) → (arcs : List Cap) → capacity X arcs ≡ capacity Y arcs
capacity-same X Y same arcs = sum_by-agree (leaving X) (leaving Y) arcs (λ k d l i. across (same (slice_index_or arcs k d).tail i) (same (slice_index_or arcs k d).head i) (slice_index_or arcs k d).cap)

across_out : (a : Bool) (c : ℕ) → across a false c ≡ cond a c 0
across_out true c = refl
across_out false c = refl

-- what leaves a side to the new node is the sum of its counts
capacity-count_arcs : (z v : ℕ) (X Y : List Bool) → has X z ≡ false → ((i : ℕ) → has Y i ≡ has X (v + i)) → (cs : List ℕ) → capacity X (count_arcs z v cs) ≡ sum_over Y (slice_index cs)
capacity-count_arcs z v X Y out same [] = sym (nodes_none Y)
capacity-count_arcs z v X [] out same (c ∷ cs) =
    let arc : Cap = record { tail = v; head = z; cap = c } in
    let here : leaving X arc ≡ 0 = (let e : v + 0 ≡ v = omega arith in rw (out, ← e, ← same 0) refl) in
    let rest = capacity-count_arcs z (suc v) X [] out (λ i. same (suc i) ∙ (let e : v + suc i ≡ suc v + i = omega arith in ap (has X) e)) cs in
    omega (arith, sum_by-cons (leaving X) arc (count_arcs z (suc v) cs), here, rest)
capacity-count_arcs z v X (y ∷ Y) out same (c ∷ cs) =
    let arc : Cap = record { tail = v; head = z; cap = c } in
    let first : has X v ≡ y = (let e : v + 0 ≡ v = omega arith in ap (has X) (sym e) ∙ sym (same 0)) in
    let here : leaving X arc ≡ cond y c 0 = rw (out, first) (across_out y c) in
    let rest = capacity-count_arcs z (suc v) X Y out (λ i. same (suc i) ∙ (let e : v + suc i ≡ suc v + i = omega arith in ap (has X) e)) cs in
    omega (arith, sum_by-cons (leaving X) arc (count_arcs z (suc v) cs), here, rest)

-- a side with the same nodes as one without the new node
pub capacity-new_node : (arcs : List Cap) (counts : List ℕ) (X Y : List Bool) → ((v : ℕ) → has X v ≡ has Y v) → has X (length counts) ≡ false
    → capacity X (with_new_node arcs counts) ≡ value_with arcs counts Y
capacity-new_node arcs counts X Y same out =
    omega (
      arith,
      sum_by-append (leaving X) arcs (count_arcs (length counts) 0 counts),
      capacity-same X Y same arcs,
      capacity-count_arcs (length counts) 0 X Y out (λ i. sym (same i) ∙ (let e : i ≡ 0 + i = omega arith in ap (has X) e)) counts,
    )

-- a side that misses the new node has the nodes of a side of the others
pub has-narrow : (n : ℕ) (X Y : List Bool) → length X ≡ n + 1 → length Y ≡ n → has X n ≡ false → ((v : ℕ) → v < n → has Y v ≡ has X v) → (v : ℕ) → has X v ≡ has Y v
has-narrow n X Y long long' out same v =
    elim (cases_lt v n) [
      | inl l ↦ sym (same v l)
      | inr past ↦
          (elim (cases_eq v n) [
            | inl e ↦ ap (has X) e ∙ out
            | inr ne ↦ get_or_past X v false (omega arith)
          ])
          ∙ sym (get_or_past Y v false (omega arith))
    ]

-- the new node added outside
pub has-more : (X : List Bool) (v : ℕ) → has (X ++ false ∷ []) v ≡ has X v
has-more [] zero = refl
has-more [] (suc v) = refl
has-more (x ∷ X) zero = refl
has-more (x ∷ X) (suc v) = has-more X v

pub length-edge_arcs : (ls : List Line) → length (arcs_of Undirected ls) ≡ 2 * length ls
length-edge_arcs [] = omega arith
length-edge_arcs (l ∷ ls) = let rest = length-edge_arcs ls in omega arith

ends-edge_arcs : {n : ℕ} (ls : List Line) → All (Fits n) ls → All (λ a. (a.tail < n) × (a.head < n)) (arcs_of Undirected ls)
ends-edge_arcs {n} [] fits = All-nil (λ a. (a.tail < n) × (a.head < n))
ends-edge_arcs {n} (l ∷ ls) fits =
    let f = All-head (Fits n) l ls fits in
    All-cons (λ a. (a.tail < n) × (a.head < n)) (unit_arc l.tail l.head) (unit_arc l.head l.tail ∷ arcs_of Undirected ls) (f.tail, f.head)
    (All-cons (λ a. (a.tail < n) × (a.head < n)) (unit_arc l.head l.tail) (arcs_of Undirected ls) (f.head, f.tail) (ends-edge_arcs ls (All-tail (Fits n) l ls fits)))

-- the arcs of a graph, and those of a digraph by a way
pub edges_are_arcs : {n : ℕ} (ls : List Line) → All (Fits n) ls → length ls ≤ 65536 → AreArcs n (arcs_of Undirected ls)
edges_are_arcs ls fits few = record { few = omega (arith, length-edge_arcs ls); ends = ends-edge_arcs ls fits }

pub lines_are_arcs : {n : ℕ} (way : Way) (ls : List Line) → All (Fits n) ls → length ls ≤ 65536 → AreArcs n (map (arc_by way) ls)
lines_are_arcs way ls fits few = record { few = omega (arith, length-map ls (arc_by way)); ends = ends-arcs_by way ls fits }
