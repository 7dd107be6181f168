-- The capacity that leaves a side of a network with some arcs turned back.
use Rattle.std.specs.Prelude.{ℕ, ◌≡◌, ◌+◌, ◌*◌, ◌<◌, Bool, true, false, not, ◌&&◌, List, [], ◌∷◌, map, All}
use Rattle.std.proofs.Common.{sym, ap, ◌∙◌, arith}
use Rattle.std.proofs.lemmas.List.Sums.{sum_by-cons, sum_by-append}
use Rattle.std.proofs.lemmas.List.Elements.{All-append, All-map, All-weaker}
use Rattle.graph_core.specs.Graph.{Fits}
use Rattle.graph_core.specs.Side.{has}
use Rattle.graph_core.specs.Lines.{leaves, entering, leaving}
use Rattle.graph_core.specs.declared.graph.Line.{Line}
use Rattle.graph_core.proofs.Counting.{weight}
use Rattle.problem_defs.specs.declared.cert.Way.TheVariants.{Entering}
use Rattle.flow_cuts.specs.NewNode.{arc_by}
use Rattle.flow_cuts.specs.declared.network.Cap.{Cap}
use Rattle.flow_cuts.specs.Network.{across, capacity, leaving as leaving_cap}
use Rattle.flow_cuts.proofs.NewNodes.{capacity-arcs_by, ends-arcs_by}
use Rattle.dicut_lattice.specs.Networks.{along, arcs_with}

across-along : (c : ℕ) (a b : Bool) → across a b c ≡ c * weight (a && not b)
across-along c true true = omega arith
across-along c true false = omega arith
across-along c false b = omega arith

spread : (c a b : ℕ) → c * (a + b) ≡ c * a + c * b
spread c a b = grind arith

capacity-along : (c : ℕ) (X : List Bool) (ls : List Line) → capacity X (map (along c) ls) ≡ c * leaving X ls
capacity-along c X [] = omega arith
capacity-along c X (l ∷ ls) =
    sum_by-cons (leaving_cap X) (along c l) (map (along c) ls)
    ∙ (λ t. across-along c (has X l.tail) (has X l.head) t + capacity-along c X ls t)
    ∙ sym (spread c (weight (leaves X l)) (leaving X ls))
    ∙ ap (λ k. c * k) (sym (sum_by-cons (λ x. weight (leaves X x)) l ls))

pub capacity-arcs_with : (c : ℕ) (X : List Bool) (ls arcs : List Line) → capacity X (arcs_with c ls arcs) ≡ c * leaving X ls + entering X arcs
capacity-arcs_with c X ls arcs = omega (arith, sum_by-append (leaving_cap X) (map (arc_by Entering) arcs) (map (along c) ls), capacity-along c X ls, capacity-arcs_by Entering X arcs)

pub ends-arcs_with : (n c : ℕ) (ls arcs : List Line) → All (Fits n) ls → All (Fits n) arcs → All (λ a. (a.tail < n) × (a.head < n)) (arcs_with c ls arcs)
ends-arcs_with n c ls arcs h k =
    let In : Cap → Type 0 = λ a. (a.tail < n) × (a.head < n) in
    All-append In (map (arc_by Entering) arcs) (map (along c) ls)
    (ends-arcs_by Entering arcs k)
    (All-map In (along c) ls (All-weaker (Fits n) (λ l. In (along c l)) (λ l f. (f.tail, f.head)) ls h))
