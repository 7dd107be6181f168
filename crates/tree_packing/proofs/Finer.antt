-- When disjoint forests are spanning trees, and what their classes show when they aren't.
use Rattle.std.proofs.Common.{ℕ, ◌≡◌, ◌+◌, ◌-◌, ◌*◌, ◌<◌, ◌≤◌, Bool, true, false, List, [], ◌∷◌, length, replicate, ap, arith, ⊎_elim}
use Rattle.std.specs.Prelude.{All, sum_by}
use Rattle.std.proofs.lemmas.Bool.{cases_lt, and_from}
use Rattle.std.proofs.lemmas.List.{length-replicate, get_or-replicate}
use Rattle.std.proofs.lemmas.List.Sums.{sum_by-cons, sum_by-le}
use Rattle.std.proofs.lemmas.List.Elements.{All-nil, All-cons, All-head, All-tail, All-weaker}
use Rattle.graph_core.specs.Graph.{GraphValue, Fits}
use Rattle.graph_core.specs.Side.{has, size}
use Rattle.graph_core.specs.Lines.{within, induced, between}
use Rattle.graph_core.specs.Picked.{picked}
use Rattle.graph_core.specs.Trees.{IsForest, IsSpanningTree}
use Rattle.graph_core.specs.declared.graph.Line.{Line}
use Rattle.graph_core.proofs.Counting.{weight, All-both, All-picked, length-all_picked, sum_by-ones}
use Rattle.graph_core.proofs.SizeLaws.{size-all}
use Rattle.graphic_matroid.specs.Forests.{AreMostForests}
use Rattle.graphic_matroid.proofs.DualCounts.{most-sum}
use Rattle.problem_defs.specs.Trees.{IsFeasible, IsDual}

-- terms of at most c whose sum is the most that it can be are all c
sum-full : {X : Type 0} (f : X → ℕ) (c : ℕ) (xs : List X) → All (λ x. f x ≤ c) xs → c * length xs ≤ sum_by f xs → All (λ x. f x ≡ c) xs
sum-full f c [] h s = All-nil (λ x. f x ≡ c)
sum-full f c (x ∷ xs) h s =
    let first = All-head (λ y. f y ≤ c) x xs h in
    let later = All-tail (λ y. f y ≤ c) x xs h in
    let total = sum_by-cons f x xs in
    let rest = sum_by-le f c xs later in
    All-cons (λ y. f y ≡ c) x xs (omega arith) (sum-full f c xs later (omega arith))

two_or_more : (e k p : ℕ) → e + k < k * p → 2 ≤ p × e < k * (p - 1)
two_or_more e k p h =
    ⊎_elim
    (λ two.
    let next : p ≡ (p - 1) + 1 = omega arith in
    let product = ap (λ x. k * x) next in (two, omega arith))
    (λ less. absurd (⊎_elim
    (λ one. let product = ap (λ x. k * x) (let e : p ≡ 1 = omega arith in e) in omega arith)
    (λ none. let product = ap (λ x. k * x) (let e : p ≡ 0 = omega arith in e) in omega arith)
    (cases_lt 0 p)))
    (cases_lt 1 p)

-- a forest has fewer lines than nodes
length-forest : (n : ℕ) (ls : List Line) → All (Fits n) ls → 1 ≤ n → (js : List ℕ) → IsForest n ls js → length js ≤ n - 1
length-forest n ls fits some js f =
    let full : List Bool = replicate n true in
    let here : (v : ℕ) → v < n → has (replicate n true) v ≡ true = λ v l. get_or-replicate n v true false l in
    let long = length-replicate n true in
    let less : induced (replicate n true) (picked ls js) < size (replicate n true) = f.acyclic (replicate n true) (record { long = long; some_in = (0, rw long some, get_or-replicate n 0 true true some) }) in
    let inside : All (λ l. weight (within (replicate n true) l) ≡ 1) (picked ls js) =
    All-weaker (Fits n) (λ l. weight (within (replicate n true) l) ≡ 1) (λ l t. ap weight (and_from (has (replicate n true) l.tail) (has (replicate n true) l.head) (here l.tail t.tail) (here l.head t.head))) (picked ls js) (All-picked (Fits n) ls js fits) in
    omega (arith, sum_by-ones (λ l. weight (within (replicate n true) l)) (picked ls js) inside, length-all_picked ls js f.picks.in_range, size-all n)

module _ (g : GraphValue) (fits : All (Fits (length g.names)) g.lines) (some : 1 ≤ length g.names) (k : ℕ) (rows : List (List ℕ)) (P : List (List Bool)) (m : AreMostForests (length g.names) g.lines k rows P) where
  pub spanning : All (λ row. length row ≡ length g.names - 1) rows → IsFeasible g rows
  spanning all = record {
    each = All-both (IsForest (length g.names) g.lines) (λ row. length row ≡ length g.names - 1) (IsSpanningTree (length g.names) g.lines) (λ row f e. record { forest = f; many = omega arith }) rows m.forests all;
    disjoint = m.disjoint;
  }

  few : sum_by length rows < (length g.names - 1) * length rows → 2 ≤ length P × between P g.lines < k * (length P - 1)
  few less =
      let sum = most-sum (length g.names) g.lines k rows P m in
      let many = ap (λ r. (length g.names - 1) * r) m.many in
      let nodes : length g.names ≡ (length g.names - 1) + 1 = omega arith in
      let product = ap (λ x. k * x) nodes in
      two_or_more (between P g.lines) k (length P) (omega arith)

  pub finer : (All (λ row. length row ≡ length g.names - 1) rows → ⊥) → IsDual g P × between P g.lines < k * (length P - 1)
  finer not_all =
      ⊎_elim
      (λ less. let w = few less in (record { partition = m.partition; classes = w.0 }, w.1))
      (λ full. absurd (not_all (sum-full length (length g.names - 1) rows (All-weaker (IsForest (length g.names) g.lines) (λ row. length row ≤ length g.names - 1) (length-forest (length g.names) g.lines fits some) rows m.forests) full)))
      (cases_lt (sum_by length rows) ((length g.names - 1) * length rows))
