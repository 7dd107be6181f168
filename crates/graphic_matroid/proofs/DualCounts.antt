-- How many lines disjoint forests have, by the classes of the reached lines.
use Rattle.std.proofs.Common.{ℕ, suc, ◌≡◌, ◌+◌, ◌-◌, ◌*◌, ◌<◌, ◌≤◌, Bool, true, cond, List, [], ◌∷◌, length, get_or, count_by, sym, refl, ap, ◌∙◌, arith, ⊎_elim}
use Rattle.std.specs.Prelude.{All, slice_get, sum_by}
use Rattle.std.specs.List.{concat}
use Rattle.std.proofs.lemmas.Bool.{cases_Bool, and_parts}
use Rattle.std.proofs.lemmas.List.Elements.{All-from_get_or, All-weaker}
use Rattle.graph_core.specs.Side.{has, size, IsNonempty}
use Rattle.graph_core.specs.Lines.{within, parted, between, induced}
use Rattle.graph_core.specs.Families.{IsPartition}
use Rattle.graph_core.specs.Graph.{Fits}
use Rattle.graph_core.specs.Picked.{picked, occurrences}
use Rattle.graph_core.specs.Walks.{AreDisjoint}
use Rattle.graph_core.specs.Trees.{IsForest, IsAcyclic}
use Rattle.graph_core.specs.declared.graph.Line.{Line}
use Rattle.graph_core.proofs.Counting.{weight, weighed, passes, sum_by-add, sum_by-agree, sum_by-same, sum_by-le_each, rows-le, sum_by-concat, count_by-picked, count_by-picks, length-all_picked, All-picked}
use Rattle.graph_core.proofs.FamilyLaws.{between-and-within, sum_by-size_of_partition, length-partition}
use Rattle.graph_core.specs.Sets.{set_of}
use Rattle.matroid_union.specs.Union.{names, row, IsUnion}
use Rattle.graph_core.proofs.SetLaws.{has_of}
use Rattle.graphic_matroid.specs.Chosen.{chosen}
use Rattle.graphic_matroid.specs.Components.{AreComponents}
use Rattle.graph_core.proofs.SizeLaws.{weight_true, weight_false, count-cons}
use Rattle.graphic_matroid.specs.ChosenLaws.{chosen-le, chosen-some}
use Rattle.graphic_matroid.specs.Forests.{AreMostForests}
use Rattle.graphic_matroid.proofs.RootLaws.{count_by-unfit}
use Rattle.graphic_matroid.proofs.RowForests.{picked-chosen, row_distinct, row_is_forest, rows_are_forests, row_in}
use Rattle.graphic_matroid.proofs.Dual.{kept_lines, find_below, classes_tight}

-- where each line that passes is counted once, the lines that pass are counted
weighed-where : (p : Line → Bool) (ls : List Line) (times : ℕ → ℕ) → ((j : ℕ) (d : Line) → j < length ls → p (get_or ls j d) ≡ true → times j ≡ 1) → weighed p ls times ≡ count_by p ls
weighed-where p [] times h = refl
weighed-where p (l ∷ ls) times h =
    let rest = weighed-where p ls (λ j. times (suc j)) (λ j d lj t. h (suc j) d (omega arith) t) in
    ⊎_elim
    (λ t.
    let once = h 0 l (omega arith) t in
    let here : cond (p l) (times 0) 0 ≡ times 0 = ap (λ b. cond b (times 0) 0) t in
    omega (arith, count-cons p l ls, weight_true (p l) t))
    (λ f.
    let here : cond (p l) (times 0) 0 ≡ 0 = ap (λ b. cond b (times 0) 0) f in
    omega (arith, count-cons p l ls, weight_false (p l) f))
    (cases_Bool (p l))

-- the most lines, without a difference
pub most-sum : (n : ℕ) (ls : List Line) (k : ℕ) (rows : List (List ℕ)) (P : List (List Bool)) → AreMostForests n ls k rows P → sum_by length rows + k * length P ≡ between P ls + k * n
most-sum n ls k rows P m =
    let few = length-partition n P m.partition in
    let apart : n ≡ (n - length P) + length P = omega arith in
    omega (arith, m.most, ap (λ x. k * x) apart)

-- any disjoint forests have no more lines than a partition allows
module _ (n : ℕ) (ls : List Line) (fits : All (Fits n) ls) (P : List (List Bool)) (part : IsPartition n P) where
  -- a row's lines, with one more for each class
  row-split : (js : List ℕ) → All (λ j. j < length ls) js → length js + length P ≡ between P (picked ls js) + sum_by (λ C. induced C (picked ls js) + 1) P
  row-split js inside =
      let apart = sum_by-add (λ C. induced C (picked ls js)) (λ _. 1) P in
      let ones = sum_by-same 1 P in
      let split = between-and-within n P part (picked ls js) (All-picked (Fits n) ls js fits) in
      let many = length-all_picked ls js inside in
      omega arith

  row-most : (js : List ℕ) → IsForest n ls js → length js + length P ≤ n + between P (picked ls js)
  row-most js f =
      let thin : All (λ C. induced C (picked ls js) + 1 ≤ size C) P = All-weaker (IsNonempty n) (λ C. induced C (picked ls js) + 1 ≤ size C) (λ C h. let less : induced C (picked ls js) < size C = f.acyclic C h in omega arith) P part.nonempty in
      let most = sum_by-le_each (λ C. induced C (picked ls js) + 1) size P thin in
      omega (arith, sum_by-size_of_partition n P part, row-split js f.picks.in_range)

  pub rows-most : (rows : List (List ℕ)) → All (IsForest n ls) rows → AreDisjoint rows → sum_by length rows + length rows * length P ≤ between P ls + length rows * n
  rows-most rows forests disjoint =
      let each : All (λ js. length js + length P ≤ n + between P (picked ls js)) rows = All-weaker (IsForest n ls) (λ js. length js + length P ≤ n + between P (picked ls js)) row-most rows forests in
      let le = sum_by-le_each (λ js. length js + length P) (λ js. n + between P (picked ls js)) rows each in
      let left = sum_by-add length (λ _. length P) rows in
      let right = sum_by-add (λ _. n) (λ js. between P (picked ls js)) rows in
      let classes = sum_by-same (length P) rows in
      let nodes = sum_by-same n rows in
      let joining = rows-le (parted P) ls rows disjoint in
      omega arith

-- s + p k = n k + e, with n = p + d
lacking : (s p n k e d : ℕ) → s + p * k ≡ n * k + e → n ≡ p + d → s ≡ e + k * d
lacking s p n k e d h i = omega (arith, h, ap (λ m. m * k) i)

module _ (n : ℕ) (ls : List Line) (fits : All (Fits n) ls) (k : ℕ) (rows : List (List ℕ)) (reached : List Bool) (u : IsUnion (length ls) (λ A. IsAcyclic n (chosen A ls)) k rows reached) (P : List (List Bool)) (w : AreComponents n (chosen reached ls) P) where
  abbrev lines_of : ℕ → List Line
  lines_of p = picked ls (row rows p)

  -- a row has one line fewer than nodes within each class
  class_exact : (p : ℕ) → p < k → All (λ C. induced C (lines_of p) + 1 ≡ size C) P
  class_exact p lp i d l =
      let C = get_or P i d in
      let few : induced (get_or P i d) (lines_of p) < size (get_or P i d) = (row_is_forest n ls k rows reached u p lp).acyclic (get_or P i d) (w.partition.nonempty i d l) in
      let kept = chosen-le (within (get_or P i d)) (set_of (length ls) (kept_lines rows reached p)) (set_of (length ls) (names (row rows p))) ls
      (λ e le h. has_of (length ls) (names (row rows p)) e le ∙ (and_parts (names (row rows p) e) (has reached e) (sym (has_of (length ls) (kept_lines rows reached p) e le) ∙ h)).0) in
      let tight = classes_tight n ls (count_by-unfit n ls fits) k rows reached u P w p lp i d l in
      let same = picked-chosen ls (row rows p) (row_distinct n ls k rows reached u p) (within (get_or P i d)) in
      omega arith

  -- a row has n lines, less one for each class, and those that join two
  row_lines : (p : ℕ) → p < k → length (row rows p) + length P ≡ n + between P (lines_of p)
  row_lines p lp =
      let exact = sum_by-agree (λ C. induced C (lines_of p) + 1) size P (class_exact p lp) in
      let split = row-split n ls fits P w.partition (row rows p) (row_is_forest n ls k rows reached u p lp).picks.in_range in
      omega (arith, sum_by-size_of_partition n P w.partition)

  -- a line that joins two classes isn't reached, so a row has it
  joining_once : (j : ℕ) (d : Line) → j < length ls → parted P (get_or ls j d) ≡ true → occurrences j (concat rows) ≡ 1
  joining_once j d l t =
      let most = u.distinct j in
      ⊎_elim
      (λ found. let least = row_in rows found.0 j found.2 in omega arith)
      (λ none.
      let some = chosen-some (parted P) reached ls j d l (u.rest j l none) t in
      let zero_apart = w.apart in
      absurd (omega arith))
      (find_below (λ p. names (row rows p) j) k)

  joining : sum_by (λ js. between P (picked ls js)) rows ≡ between P ls
  joining =
      let f : ℕ → ℕ = λ j. weight (passes (parted P) (slice_get ls j)) in
      (λ t. sum_by (λ js. count_by-picked (parted P) ls js t) rows) ∙ sym (sum_by-concat f rows) ∙ count_by-picks (parted P) ls (concat rows) ∙ weighed-where (parted P) ls (λ j. occurrences j (concat rows)) joining_once

  total : sum_by length rows + length P * k ≡ n * k + between P ls
  total =
      let each : All (λ js. length js + length P ≡ n + between P (picked ls js)) rows = All-from_get_or (λ js. length js + length P ≡ n + between P (picked ls js)) rows [] (λ p l. row_lines p (rw (← u.many) l)) in
      let same = sum_by-agree (λ js. length js + length P) (λ js. n + between P (picked ls js)) rows each in
      let left = sum_by-add length (λ _. length P) rows in
      let right = sum_by-add (λ _. n) (λ js. between P (picked ls js)) rows in
      let classes : sum_by (λ _. length P) rows ≡ length P * k = sum_by-same (length P) rows ∙ ap (λ m. length P * m) u.many in
      let nodes : sum_by (λ _. n) rows ≡ n * k = sum_by-same n rows ∙ ap (λ m. n * m) u.many in
      omega (arith, joining)

  pub most_forests : AreMostForests n ls k rows P
  most_forests = record {
    many = u.many;
    forests = rows_are_forests n ls k rows reached u;
    disjoint = u.distinct;
    partition = w.partition;
    most = lacking (sum_by length rows) (length P) n k (between P ls) (n - length P) total (let few = length-partition n P w.partition in omega arith);
  }
