-- Where forests leave a line out, a class asks for more of them.
use Rattle.std.proofs.Common.{ℕ, zero, suc, ◌≡◌, ◌≢◌, ◌+◌, ◌-◌, ◌*◌, ◌<◌, ◌≤◌, Bool, true, false, cond, List, [], ◌∷◌, length, get_or, replicate, refl, sym, ap, arith, ⊎_elim, subst}
use Rattle.std.specs.Prelude.{All, nat_lt, sum_by}
use Rattle.std.specs.Int.{div_ceil}
use Rattle.std.proofs.Math.Nat.{lt_of_mul-lt-mul_right}
use Rattle.std.proofs.lemmas.Bool.{cases_Bool, cases_lt, both_ways, and_parts, lt-ltb, ltb-true}
use Rattle.std.proofs.lemmas.Grind.{div_ceil_times}
use Rattle.std.proofs.lemmas.List.{length-replicate, get_or-replicate}
use Rattle.std.proofs.lemmas.List.Sums.{sum_by-cons, count_by-le-length}
use Rattle.std.proofs.lemmas.List.Elements.{All-head, All-tail}
use Rattle.graph_core.specs.Graph.{Fits}
use Rattle.graph_core.specs.Side.{has, size, complement, IsNonempty}
use Rattle.graph_core.specs.Lines.{within, induced}
use Rattle.graph_core.specs.declared.graph.Line.{Line}
use Rattle.graph_core.proofs.Counting.{weight, sum_by-add, sum_by-same}
use Rattle.graph_core.proofs.FamilyLaws.{between-and-within, sum_by-size_of_partition, size-nonempty}
use Rattle.graph_core.proofs.SizeLaws.{weight_true, weight_false}
use Rattle.graph_core.proofs.SplitLaws.{size-has}
use Rattle.graphic_matroid.specs.Forests.{AreMostForests}
use Rattle.graphic_matroid.proofs.DualCounts.{most-sum}
use Rattle.problem_defs.specs.Ceil.{div_ceil-le}
use Rattle.forest_cover.specs.Dense.{demand, IsDensest}

-- a side with two nodes
two_nodes : (X : List Bool) (u v : ℕ) → u ≢ v → has X u ≡ true → has X v ≡ true → 2 ≤ size X
two_nodes [] u v ne a b = absurd (both_ways false refl a)
two_nodes (x ∷ X) zero zero ne a b = absurd (ne refl)
two_nodes (x ∷ X) zero (suc v) ne a b = omega (arith, sum_by-cons weight x X, weight_true x a, size-has X v b)
two_nodes (x ∷ X) (suc u) zero ne a b = omega (arith, sum_by-cons weight x X, weight_true x b, size-has X u a)
two_nodes (x ∷ X) (suc u) (suc v) ne a b = omega (arith, sum_by-cons weight x X, two_nodes X u v (λ e. ne (ap suc e)) a b)

-- a line lies within a side of two nodes or more
lines_within : (n : ℕ) (ls : List Line) → All (Fits n) ls → (X : List Bool) → 1 ≤ induced X ls → 2 ≤ size X
lines_within n [] fits X h = absurd (omega arith)
lines_within n (l ∷ ls) fits X h =
    ⊎_elim
    (λ t. let ends = and_parts (has X l.tail) (has X l.head) t in two_nodes X l.tail l.head (All-head (Fits n) l ls fits).apart ends.0 ends.1)
    (λ f. lines_within n ls (All-tail (Fits n) l ls fits) X (omega (arith, sum_by-cons (λ x. weight (within X x)) l ls, weight_false (within X l) f)))
    (cases_Bool (within X l))

module _ {X : Type 0} where
  -- where one sum is less than another, a term is
  find_less : (f g : X → ℕ) (d : X) (xs : List X) → sum_by f xs < sum_by g xs → (i : ℕ) × (i < length xs) × (f (get_or xs i d) < g (get_or xs i d))
  find_less f g d [] h = absurd (omega arith)
  find_less f g d (x ∷ xs) h =
      ⊎_elim
      (λ less. (0, omega arith, less))
      (λ more. let w = find_less f g d xs (omega (arith, sum_by-cons f x xs, sum_by-cons g x xs)) in let l : w.0 < length xs = w.1 in (suc w.0, omega arith, w.2))
      (cases_lt (f x) (g x))

  sum_by-times : (k : ℕ) (f : X → ℕ) (xs : List X) → sum_by (λ x. k * f x) xs ≡ k * sum_by f xs
  sum_by-times k f [] = omega arith
  sum_by-times k f (x ∷ xs) = omega (arith, sum_by-cons (λ y. k * f y) x xs, sum_by-times k f xs, ap (λ s. k * s) (sum_by-cons f x xs))

pub demand_is : (ls : List Line) (X : List Bool) → 2 ≤ size X → demand ls X ≡ div_ceil (induced X ls) (size X - 1)
demand_is ls X two = ap (λ b. cond b (div_ceil (induced X ls) (size X - 1)) 0) (lt-ltb 1 (size X) two)

pub demand_some : (ls : List Line) (X : List Bool) → 1 ≤ demand ls X → 2 ≤ size X
demand_some ls X h =
    ⊎_elim (λ two. two)
    (λ less. absurd (⊎_elim
    (λ t. omega (arith, ltb-true 1 (size X) t))
    (λ f. let none : demand ls X ≡ 0 = ap (λ b. cond b (div_ceil (induced X ls) (size X - 1)) 0) f in omega arith)
    (cases_Bool (nat_lt 1 (size X)))))
    (cases_lt 1 (size X))

pub demand_most : (ls : List Line) (X : List Bool) → demand ls X ≤ length ls
demand_most ls X =
    ⊎_elim
    (λ some.
    let two = demand_some ls X some in
    let few = count_by-le-length (within X) ls in
    let next : size X - 1 ≡ (size X - 2) + 1 = omega arith in
    let product = ap (λ c. length ls * c) next in
    let most = div_ceil-le (induced X ls) (size X - 1) (length ls) (omega arith) (omega arith) in
    let same = demand_is ls X two in
    omega arith)
    (λ none. omega arith)
    (cases_lt 0 (demand ls X))

-- more lines within than k forests can have
over_demand : (ls : List Line) (X : List Bool) (k : ℕ) → 2 ≤ size X → k * (size X - 1) < induced X ls → k < demand ls X
over_demand ls X k two h =
    let enough = (div_ceil_times (induced X ls) (size X - 1) (omega arith)).0 in
    let less : k * (size X - 1) < div_ceil (induced X ls) (size X - 1) * (size X - 1) = omega arith in
    subst (λ d. k < d) (sym (demand_is ls X two)) (lt_of_mul-lt-mul_right (size X - 1) less)

module _ (n : ℕ) (ls : List Line) (fits : All (Fits n) ls) (k : ℕ) (rows : List (List ℕ)) (P : List (List Bool)) (m : AreMostForests n ls k rows P) (out : sum_by length rows < length ls) where
  over : (i : ℕ) × (i < length P) × (k < demand ls (get_or P i []))
  over =
      let split = between-and-within n P m.partition ls fits in
      let sum = most-sum n ls k rows P m in
      let nodes = ap (λ s. k * s) (sum_by-size_of_partition n P m.partition) in
      let scaled = sum_by-times k size P in
      let added = sum_by-add (λ X. induced X ls) (λ _. k) P in
      let each = sum_by-same k P in
      let w = find_less (λ X. k * size X) (λ X. induced X ls + k) [] P (omega arith) in
      let X : List Bool = get_or P w.0 [] in
      let some : 1 ≤ size (get_or P w.0 []) = size-nonempty (get_or P w.0 []) (m.partition.nonempty w.0 [] w.1).some_in in
      let more : k * size (get_or P w.0 []) < induced (get_or P w.0 []) ls + k = w.2 in
      let next : size (get_or P w.0 []) ≡ (size (get_or P w.0 []) - 1) + 1 = omega arith in
      let product = ap (λ s. k * s) next in
      let within_it : k * (size (get_or P w.0 []) - 1) < induced (get_or P w.0 []) ls = omega arith in
      (w.0, w.1, over_demand ls (get_or P w.0 []) k (lines_within n ls fits (get_or P w.0 []) (omega arith)) within_it)

  pub some_class : 1 ≤ length P
  some_class = let o = over in let l : o.0 < length P = o.1 in omega arith

  pub denser : (best : ℕ) → IsDensest ls P best → k < demand ls (get_or P best [])
  denser best w = let o = over in let l : o.0 < length P = o.1 in let more : k < demand ls (get_or P o.0 []) = o.2 in let le = w.most o.0 [] l in omega arith

-- the side of all nodes
pub complement-none : (n : ℕ) → complement (replicate n false) ≡ replicate n true
complement-none zero = refl
complement-none (suc n) = ap (λ X. true ∷ X) (complement-none n)

pub all-nonempty : (n : ℕ) → 1 ≤ n → IsNonempty n (replicate n true)
all-nonempty n some = record { long = length-replicate n true; some_in = (0, rw (length-replicate n true) some, get_or-replicate n 0 true true some) }

-- where there is a line, there are two nodes
pub nodes_two : (n : ℕ) (ls : List Line) → All (Fits n) ls → 1 ≤ length ls → 2 ≤ n
nodes_two n [] fits some = absurd (omega arith)
nodes_two n (l ∷ ls) fits some = let f = All-head (Fits n) l ls fits in let t = f.tail in let h = f.head in let ne = f.apart in omega arith
