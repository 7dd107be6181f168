-- Weak duality of spanning trees.
use Rattle.std.specs.Prelude.{ℕ, false, ◌≡◌, ◌-◌, ◌+◌, ◌*◌, ◌<◌, ◌≤◌, Bool, List, [], ◌∷◌, length, sum_by, count_by, All, refl}
use Rattle.std.proofs.Common.{sym, ap, ◌∙◌, arith, inl, inr}
use Rattle.std.proofs.Math.Nat.{le-div_iff_mul-le}
use Rattle.std.proofs.lemmas.Bool.{cases_lt}
use Rattle.std.proofs.lemmas.List.{get_or_past}
use Rattle.std.proofs.lemmas.List.Sums.{sum_by-cons}
use Rattle.std.proofs.lemmas.List.Elements.{All-weaker, All-head, All-tail}
use Rattle.graph_core.specs.Graph.{GraphValue}
use Rattle.graph_core.specs.Side.{has, size, IsNonempty}
use Rattle.graph_core.specs.Lines.{within, parted, between, induced}
use Rattle.graph_core.specs.Families.{members_with, IsPartition}
use Rattle.graph_core.specs.declared.graph.Line.{Line}
use Rattle.graph_core.proofs.FamilyLaws.{parted-or-within, sum_by-size_of_partition}
use Rattle.graph_core.specs.Picked.{picked}
use Rattle.graph_core.specs.Trees.{IsSpanningTree}
use Rattle.graph_core.proofs.Counting.{weight, sum_by-le_each, sum_by-add, sum_by-same, sum_by-swap, rows-le, length-all_picked}
use Rattle.problem_defs.specs.Trees.{IsFeasible, IsDual, bound}

-- past the last node there is no member
members-past : (n v : ℕ) → n ≤ v → (P : List (List Bool)) → All (λ X. length X ≡ n) P → members_with v P ≡ 0
members-past n v past [] h = refl
members-past n v past (X ∷ P) h =
    let long : length X ≡ n = All-head (λ Y. length Y ≡ n) X P h in
    let out = ap weight (get_or_past X v false (rw long past)) in
    omega (arith, sum_by-cons (λ Y. weight (has Y v)) X P, members-past n v past P (All-tail (λ Y. length Y ≡ n) X P h))

members-once : (n : ℕ) (P : List (List Bool)) → IsPartition n P → (v : ℕ) → members_with v P ≤ 1
members-once n P part v =
    elim (cases_lt v n) [
      | inl below ↦ omega (arith, part.each v below)
      | inr past ↦ omega (arith, members-past n v past P (All-weaker (IsNonempty n) (λ X. length X ≡ n) (λ X p. p.long) P part.nonempty))
    ]

-- the lines are those between classes and those within them, wherever their ends are
lines-split : (n : ℕ) (P : List (List Bool)) → IsPartition n P → (ls : List Line) → between P ls + sum_by (λ X. induced X ls) P ≡ length ls
lines-split n P part ls =
    ap (λ k. between P ls + k) (sum_by-swap (λ X l. weight (within X l)) P ls)
    ∙ sym (sum_by-add (λ l. weight (parted P l)) (λ l. count_by (λ X. within X l) P) ls)
    ∙ each_one ls
  where
    each_one : (xs : List Line) → sum_by (λ l. weight (parted P l) + count_by (λ X. within X l) P) xs ≡ length xs
    each_one [] = refl
    each_one (l ∷ xs) = omega (arith, sum_by-cons (λ x. weight (parted P x) + count_by (λ X. within X x) P) l xs, parted-or-within P l (members-once n P part l.tail), each_one xs)

-- a spanning tree has p - 1 edges between the classes
tree-between : (g : GraphValue) (P : List (List Bool)) → IsPartition (length g.names) P → (js : List ℕ) → IsSpanningTree (length g.names) g.lines js → length P - 1 ≤ between P (picked g.lines js)
tree-between g P part js t =
    let tree = picked g.lines js in
    let split : between P tree + sum_by (λ X. induced X tree) P ≡ length tree = lines-split (length g.names) P part tree in
    let thin : sum_by (λ X. induced X tree + 1) P ≤ sum_by size P =
    sum_by-le_each (λ X. induced X tree + 1) size P (All-weaker (IsNonempty (length g.names)) (λ X. induced X tree + 1 ≤ size X) (λ X p. let less = t.forest.acyclic X p in omega arith) P part.nonempty) in
    omega (arith, t.many, sum_by-size_of_partition (length g.names) P part, sum_by-add (λ X. induced X tree) (λ _. 1) P, sum_by-same 1 P, length-all_picked g.lines js t.forest.picks.in_range)

pub law : (g : GraphValue) (rows : List (List ℕ)) (P : List (List Bool)) → IsFeasible g rows → IsDual g P → length rows ≤ bound g P
law g rows P f d =
    let pos : 0 < length P - 1 = let two = d.classes in omega arith in
    let each : sum_by (λ _. length P - 1) rows ≤ sum_by (λ row. between P (picked g.lines row)) rows =
    sum_by-le_each (λ _. length P - 1) (λ row. between P (picked g.lines row)) rows
    (All-weaker (IsSpanningTree (length g.names) g.lines) (λ row. length P - 1 ≤ between P (picked g.lines row)) (λ row t. tree-between g P d.partition row t) rows f.each) in
    let product : length rows * (length P - 1) ≤ between P g.lines = omega (arith, each, sum_by-same (length P - 1) rows, rows-le (parted P) g.lines rows f.disjoint) in
    (le-div_iff_mul-le pos).1 product
