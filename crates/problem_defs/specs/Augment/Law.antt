-- Weak duality of new edges.
use Rattle.std.specs.Prelude.{ℕ, ◌≡◌, ◌-◌, ◌+◌, ◌*◌, ◌≤◌, ◌==◌, Bool, List, [], ◌∷◌, ◌++◌, length, All, sum_by, refl}
use Rattle.std.proofs.Common.{arith, inl, inr, subst}
use Rattle.std.proofs.lemmas.List.{length-map}
use Rattle.std.proofs.lemmas.Bool.{cases_Bool, eqb-true, eqb-false}
use Rattle.std.proofs.lemmas.List.Sums.{sum_by-append, count_by-le-length}
use Rattle.std.proofs.lemmas.List.Elements.{All-weaker, All-append}
use Rattle.graph_core.specs.Limits.{node_room}
use Rattle.graph_core.specs.Graph.{GraphValue, IsGraph, Fits, line_of, lines_of}
use Rattle.graph_core.specs.Side.{IsProper}
use Rattle.graph_core.specs.Lines.{crosses, degree, parted, between}
use Rattle.graph_core.specs.Families.{IsDisjointFamily, members_with}
use Rattle.graph_core.proofs.FamilyLaws.{sum_by-degree-le, length-disjoint_family}
use Rattle.graph_core.proofs.ClassLaws.{classes-le}
use Rattle.graph_core.proofs.Counting.{weight, demand-le}
use Rattle.problem_defs.specs.Ceil.{div_ceil-le}
use Rattle.problem_defs.specs.Augment.{Suits, IsFeasible, AreComponents, IsDual, half_bound, bound}

pub half_law : (k : ℕ) (g : GraphValue) (pairs : List (ℕ × ℕ)) (P : List (List Bool)) → IsFeasible k g pairs → IsDisjointFamily (length g.names) P → half_bound k g P ≤ length pairs
half_law k g pairs P f d =
    let n = length g.names in
    let new = lines_of pairs in
    let added : sum_by (λ X. degree X new) P ≤ 2 * length new =
    sum_by-degree-le P new (All-weaker (Fits n) (λ l. (members_with l.tail P ≤ 1) × (members_with l.head P ≤ 1)) (λ l t. (d.disjoint l.tail t.tail, d.disjoint l.head t.head)) new f.fit) in
    let demand : k * length P - sum_by (λ X. degree X g.lines) P ≤ 2 * length new =
    demand-le k (λ X. degree X g.lines) (λ X. degree X new) P (2 * length new)
    (All-weaker (IsProper n) (λ X. k ≤ degree X g.lines + degree X new) (λ X p. omega (arith, f.connected X p, sum_by-append (λ l. weight (crosses X l)) g.lines new)) P d.proper) added in
    div_ceil-le (k * length P - sum_by (λ X. degree X g.lines) P) 2 (length pairs) (omega arith) (omega (arith, demand, length-map pairs line_of))

-- so many members fit a number
pub few_members : (k : ℕ) (g : GraphValue) (P : List (List Bool)) → IsGraph g → 2 ≤ k → IsDual k g P → length P ≤ node_room
few_members k g P ok two d = omega (arith, length-disjoint_family (length g.names) P (d.0 two), ok.makes.nodes)

split_law : (g : GraphValue) (pairs : List (ℕ × ℕ)) (P : List (List Bool)) → IsGraph g → IsFeasible 1 g pairs → AreComponents g P → length P - 1 ≤ length pairs
split_law g pairs [] ok f d = omega arith
split_law g pairs (X ∷ B) ok f d =
    let new = lines_of pairs in
    let all = g.lines ++ new in
    let fit : All (Fits (length g.names)) all = All-append (Fits (length g.names)) g.lines new ok.makes.ends f.fit in
    let classes : length B ≤ between (X ∷ B) all = classes-le (length g.names) all fit f.connected (length B) X B refl d.partition in
    omega (arith, classes, d.apart, sum_by-append (λ l. weight (parted (X ∷ B) l)) g.lines new, count_by-le-length (parted (X ∷ B)) new, length-map pairs line_of)

pub two_or_more : (j : ℕ) → 1 ≤ j → (j ≡ 1 → ⊥) → 2 ≤ j
two_or_more j low ne = omega arith

pub law : (k : ℕ) (g : GraphValue) (pairs : List (ℕ × ℕ)) (P : List (List Bool)) → IsGraph g → Suits k g → IsFeasible k g pairs → IsDual k g P → bound k g P ≤ length pairs
law k g pairs P ok u f d =
    let low = u.low in
    elim (cases_Bool (k == 1)) [
      | inl one ↦ (let e : k ≡ 1 = eqb-true k 1 one in rw one (split_law g pairs P ok (subst (λ j. IsFeasible j g pairs) e f) (d.1 e)))
      | inr more ↦ rw more (half_law k g pairs P f (d.0 (let ne = eqb-false k 1 more in two_or_more k low ne)))
    ]
