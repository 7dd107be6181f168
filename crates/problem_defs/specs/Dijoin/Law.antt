-- Weak duality of dijoins, and that a forbidding side leaves none.
use Rattle.std.specs.Prelude.{ℕ, ◌≡◌, ◌≤◌, Bool, true, false, List, length, All, count_by, sum_by}
use Rattle.std.proofs.Common.{arith, inl, inr}
use Rattle.std.proofs.lemmas.Bool.{cases_Bool}
use Rattle.std.proofs.lemmas.List.Sums.{sum_by-le}
use Rattle.std.proofs.lemmas.List.Elements.{All-weaker}
use Rattle.graph_core.specs.Graph.{GraphValue}
use Rattle.graph_core.specs.Lines.{enters, entering}
use Rattle.graph_core.specs.Picked.{picked}
use Rattle.graph_core.specs.declared.graph.Line.{Line}
use Rattle.graph_core.proofs.Counting.{weight, sum_by-swap, sum_by-le_each, length-le-sum_by, All-picked, All-both}
use Rattle.problem_defs.specs.Dijoin.{IsClosed, IsFeasible, IsDual, Forbids, cost}

-- where an arc that isn't fixed enters at most as many members as its cost says, there are no more members than the costs of a dijoin add up to
pub cost_law : (g : GraphValue) (cost_of : Line → ℕ) (join : List ℕ) (P : List (List Bool)) → IsFeasible g join → All (IsClosed g) P → All (λ l. l.fixed ≡ false → count_by (λ U. enters U l) P ≤ cost_of l) g.lines
    → length P ≤ sum_by cost_of (picked g.lines join)
cost_law g cost_of join P f members apart =
    let arcs = picked g.lines join in
    let entered : All (λ U. 1 ≤ entering U arcs) P = All-weaker (IsClosed g) (λ U. 1 ≤ entering U arcs) (λ U c. f.covers U c) P members in
    let few : All (λ l. count_by (λ U. enters U l) P ≤ cost_of l) arcs =
    All-both (λ l. l.fixed ≡ false → count_by (λ U. enters U l) P ≤ cost_of l) (λ l. l.fixed ≡ false) (λ l. count_by (λ U. enters U l) P ≤ cost_of l) (λ l h free. h free) arcs
    (All-picked (λ l. l.fixed ≡ false → count_by (λ U. enters U l) P ≤ cost_of l) g.lines join apart) f.free in
    omega (arith, length-le-sum_by (λ U. entering U arcs) P entered, sum_by-swap (λ U l. weight (enters U l)) P arcs, sum_by-le_each (λ l. count_by (λ U. enters U l) P) cost_of arcs few)

pub law : (g : GraphValue) (join : List ℕ) (P : List (List Bool)) → IsFeasible g join → IsDual g P → length P ≤ cost g join
law g join P f d = cost_law g (λ l. l.cost) join P f d.members d.apart

-- where a side forbids, there is no dijoin without fixed arcs
pub none_exists : (g : GraphValue) (U : List Bool) → Forbids g U → (join : List ℕ) → IsFeasible g join → ⊥
none_exists g U x join f =
    let arcs = picked g.lines join in
    let none : All (λ l. weight (enters U l) ≤ 0) arcs =
    All-both (λ l. enters U l ≡ true → l.fixed ≡ true) (λ l. l.fixed ≡ false) (λ l. weight (enters U l) ≤ 0)
    (λ l fixed free. elim (cases_Bool (enters U l)) [ inl in' ↦ absurd (let e = fixed in' in cc) | inr out ↦ rw out (omega arith) ])
    arcs (All-picked (λ l. enters U l ≡ true → l.fixed ≡ true) g.lines join x.fixed) f.free in
    let some = f.covers U x.closed in
    omega (arith, sum_by-le (λ l. weight (enters U l)) 0 arcs none)
