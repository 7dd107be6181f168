-- The network of a digraph, before an arc is taken.
use Rattle.std.specs.Prelude.{ℕ, zero, suc, ◌≡◌, ◌+◌, ◌<◌, false, List, [], ◌∷◌, length, map, take, slice_get, slice_index, Some}
use Rattle.std.proofs.Common.{sym, ap, ◌∙◌, arith}
use Rattle.std.proofs.lemmas.List.{length-map, length-append, length-take-le, get_or-take, get_or_append_left, get_or-append-add, get_or-map}
use Rattle.std.proofs.lemmas.Option.{slice_get_within, get_or_from_slice_get}
use Rattle.graph_core.specs.Side.{has, IsNonempty}
use Rattle.graph_core.proofs.SideLaws.{contains-has}
use Rattle.graph_core.specs.declared.graph.Line.{Line}
use Rattle.problem_defs.specs.declared.cert.Way.TheVariants.{Entering}
use Rattle.flow_cuts.specs.NewNode.{arc_by, count_arcs}
use Rattle.flow_cuts.proofs.NewNodes.{length-count_arcs, capacity-arcs_by, capacity-new_node, has-narrow}
use Rattle.edmonds_branchings.specs.Network.{network_of, no_arc, cap_at, IsLeft}
use Rattle.edmonds_branchings.specs.Rooted.{CanBePacked}
use Rattle.edmonds_branchings.specs.Round.{HasCapacity}

count_arc_at : (n v : ℕ) (cs : List ℕ) (w : ℕ) → w < length cs → cap_at (count_arcs n v cs) w ≡ record { tail = v + w; head = n; cap = slice_index cs w }
count_arc_at n v [] w l = absurd (omega arith)
count_arc_at n v (c ∷ cs) zero l = let e : v ≡ v + 0 = omega arith in ap (λ u. record { tail = u; head = n; cap = c }) e
count_arc_at n v (c ∷ cs) (suc w) l =
    let e : suc v + w ≡ v + suc w = omega arith in
    count_arc_at n (suc v) cs w (omega arith) ∙ ap (λ u. record { tail = u; head = n; cap = slice_index cs w }) e

line_arc_at : (ls : List Line) (roots : List ℕ) (j : ℕ) (l : Line) → slice_get ls j ≡ Some l → cap_at (network_of ls roots) j ≡ arc_by Entering l
line_arc_at ls roots j l is =
    let within = slice_get_within ls j l is in
    get_or_append_left (map (arc_by Entering) ls) (count_arcs (length roots) 0 roots) no_arc j (omega (arith, length-map ls (arc_by Entering)))
    ∙ get_or-map (arc_by Entering) ls j l no_arc within ∙ ap (arc_by Entering) (get_or_from_slice_get ls j l l is)

pub root_at : (ls : List Line) (roots : List ℕ) (v : ℕ) → v < length roots → cap_at (network_of ls roots) (length ls + v) ≡ record { tail = v; head = length roots; cap = slice_index roots v }
root_at ls roots v l =
    let e : 0 + v ≡ v = omega arith in
    ap (λ m. cap_at (network_of ls roots) (m + v)) (sym (length-map ls (arc_by Entering)))
    ∙ get_or-append-add (map (arc_by Entering) ls) (count_arcs (length roots) 0 roots) v no_arc ∙ count_arc_at (length roots) 0 roots v l
    ∙ ap (λ u. record { tail = u; head = length roots; cap = slice_index roots v }) e

pub left_start : (n : ℕ) (ls : List Line) (roots : List ℕ) → length roots ≡ n → IsLeft n ls (network_of ls roots)
left_start n ls roots long = record {
  long = length-append (map (arc_by Entering) ls) (count_arcs (length roots) 0 roots) ∙ omega (arith, length-map ls (arc_by Entering), length-count_arcs (length roots) 0 roots);
  lines = λ j l is. (ap (λ a. a.tail) (line_arc_at ls roots j l is), ap (λ a. a.head) (line_arc_at ls roots j l is));
  roots = λ v l. let at = root_at ls roots v (omega arith) in (ap (λ a. a.tail) at, ap (λ a. a.head) at ∙ long);
}

pub unit_at : (ls : List Line) (roots : List ℕ) (j : ℕ) (l : Line) → slice_get ls j ≡ Some l → (cap_at (network_of ls roots) j).cap ≡ 1
unit_at ls roots j l is = ap (λ a. a.cap) (line_arc_at ls roots j l is)

-- Edmonds' condition is that each side has a capacity of k
pub capacity_start : {n k : ℕ} {ls : List Line} {roots : List ℕ} → CanBePacked n k ls roots → HasCapacity n k (network_of ls roots)
capacity_start {n} {k} {ls} {roots} can X x =
    let Y = take n X in
    let long : length Y ≡ n = length-take-le n X (omega (arith, x.long)) in
    let same : (v : ℕ) → has X v ≡ has Y v = has-narrow n X Y x.long long x.last_out (λ v l. get_or-take n X v false l) in
    let (v, in_x) = x.some_in in
    let y : IsNonempty n Y = record { long = long; some_in = contains-has Y v (sym (same v) ∙ in_x) } in
    omega (arith, capacity-new_node (map (arc_by Entering) ls) roots X Y same (ap (has X) can.long ∙ x.last_out), capacity-arcs_by Entering Y ls, can.entered Y y)
