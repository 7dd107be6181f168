-- What a dijoin is that is least for the costs of the arcs.
use Rattle.std.specs.Prelude.{ℕ, zero, suc, ◌≡◌, ◌<◌, ◌≤◌, Bool, false, List, [], ◌∷◌, length, map, sum, sum_by, count_by, All, refl}
use Rattle.std.proofs.Common.{◌∙◌, arith}
use Rattle.std.proofs.lemmas.List.Sums.{sum_by-cons, sum_by-le}
use Rattle.std.proofs.lemmas.List.Elements.{All-head, All-tail, All-weaker}
use Rattle.graph_core.specs.Graph.{GraphValue, IsGraph, IsPriced}
use Rattle.graph_core.specs.Lines.{enters}
use Rattle.graph_core.specs.Picked.{picked}
use Rattle.graph_core.specs.declared.graph.Line.{Line}
use Rattle.graph_core.proofs.FamilyLaws.{sum_by-map}
use Rattle.problem_defs.specs.Certified.{IsCertified}
use Rattle.problem_defs.specs.Dijoin.{problem}
use Rattle.lucchesi_younger.specs.Kept.{at, IsArc, IsSolved}
use Rattle.lucchesi_younger.proofs.Joins.{arc-at}
use Rattle.lucchesi_younger.proofs.Weighed.{All-from_at}

-- the cost of each arc
abbrev pub costs_of : List Line → List ℕ
costs_of ls = map (λ l. l.cost) ls

at-costs_of : (ls : List Line) (j : ℕ) (l : Line) → IsArc ls j l → at (costs_of ls) j ≡ l.cost
at-costs_of [] j l arc = absurd cc
at-costs_of (k ∷ ls) zero l arc = cc
at-costs_of (k ∷ ls) (suc j) l arc = at-costs_of ls j l arc

cost-at : (ls : List Line) (js : List ℕ) → All (λ j. j < length ls) js → sum_by (λ l. l.cost) (picked ls js) ≡ sum_by (at (costs_of ls)) js
cost-at ls [] h = refl
cost-at ls (j ∷ js) h =
    let (l, arc) = arc-at ls j (All-head (λ i. i < length ls) j js h) in
    let rest = cost-at ls js (All-tail (λ i. i < length ls) j js h) in
    rw arc (omega (arith, sum_by-cons (λ (k : Line). k.cost) l (picked ls js), sum_by-cons (at (costs_of ls)) j js, at-costs_of ls j l arc))

pub costs-few : (g : GraphValue) → IsGraph g → sum (costs_of g.lines) ≤ 6553600
costs-few g graph =
    omega (arith, sum_by-map (λ n. n) (λ l. l.cost) g.lines, sum_by-le (λ l. l.cost) 100 g.lines (All-weaker (IsPriced g.kind) (λ l. l.cost ≤ 100) (λ l p. p.most) g.lines graph.makes.priced), graph.makes.few)

pub solved-certified : (g : GraphValue) (join : List ℕ) (sides : List (List Bool)) → IsSolved g (costs_of g.lines) join sides → IsCertified problem g (record {}) join sides
solved-certified g join sides s = record {
  feasible = s.feasible;
  dual_feasible = record {
    members = s.members;
    apart = All-from_at (λ l. l.fixed ≡ false → count_by (λ U. enters U l) sides ≤ l.cost) g.lines (λ j l arc free. let most = s.apart j l arc free in omega (arith, at-costs_of g.lines j l arc));
  };
  equal = cost-at g.lines join s.feasible.picks.in_range ∙ s.equal;
}
