-- Rows of line numbers that are forests, line by line.
use Rattle.std.proofs.Common.{not, sum_by, drop, add-one, ℕ, zero, suc, ◌≡◌, ◌+◌, ◌<◌, ◌≤◌, ◌++◌, Bool, true, false, cond, eqb, ◌==◌, ◌||◌, List, [], ◌∷◌, Some, length, take, get_or, slice_get, slice_index, count_by, All, sym, refl, ap, ◌∙◌, subst, arith, ⊎_elim}
use Rattle.graph_core.specs.Graph.{Fits, no_line}
use Rattle.graph_core.specs.Side.{has, size}
use Rattle.graph_core.specs.Lines.{within}
use Rattle.graph_core.specs.Labels.{splits, joined, Labels, Adds}
use Rattle.graph_core.specs.Picked.{occurrences, picked}
use Rattle.graph_core.specs.Trees.{IsAcyclic, IsForest}
use Rattle.graph_core.specs.Sets.{set_of}
use Rattle.graph_core.specs.declared.graph.Line.{Line}
use Rattle.graph_core.proofs.Counting.{All-slice_get, passes, sum_by-agree, sum_by-add, sum_by-zero, weight, weight-or, weighed, count_by-picked, count_by-picks}
use Rattle.std.specs.List.{range_with_len}
use Rattle.std.proofs.Math.Seq.{take-suc}
use Rattle.std.proofs.lemmas.Bool.{cases_lt, eq-eqb, ne_eqb, and_from}
use Rattle.std.proofs.lemmas.List.{take-append-drop}
use Rattle.std.proofs.lemmas.List.Elements.{All-weaker}
use Rattle.std.proofs.lemmas.List.Sums.{sum_by-append, sum_by-cons, sum_by-le-sum_by}
use Rattle.std.proofs.lemmas.Option.{slice_get-get_or}
use Rattle.graph_core.proofs.SetLaws.{has_of, length_of}
use Rattle.graph_core.proofs.SideLaws.{nonempty-has}
use Rattle.graph_core.proofs.SizeLaws.{sum_one, weight_most, weight_false}
use Rattle.graph_core.proofs.LabelLaws.{count-map, circuit, forest_more, labels_none, split_is, split_not}
use Rattle.graph_core.proofs.JoinLaws.{labels_more}

-- labels that tell the classes which lines join
pub record AreLabels (n : ℕ) (labels : List ℕ) (ls : List Line) : Type 0 where
  pub long : length labels ≡ n
  pub label : ℕ → ℕ
  pub is : Labels n label ls
  pub same : (v : ℕ) → v < n → slice_index labels v ≡ label v

-- as many classes as nodes: no line yet
pub labels_own : (n : ℕ) (labels : List ℕ) → length labels ≡ n → ((v : ℕ) → v < n → slice_index labels v ≡ v) → AreLabels n labels []
labels_own n labels long own = record { long = long; label = λ v. v; is = labels_none n; same = own }

module _ (n : ℕ) (old new : List ℕ) (ls more : List Line) (l : Line) (fits : Fits n l) (w : AreLabels n old ls) (adds : Adds ls l more) where
  tail : slice_index old l.tail ≡ w.label l.tail
  tail = w.same l.tail fits.tail

  head : slice_index old l.head ≡ w.label l.head
  head = w.same l.head fits.head

  -- the labels after the two classes of a line's ends were joined
  pub labels_after : length new ≡ length old → ((v : ℕ) → v < length old → slice_index new v ≡ joined (slice_index old) (slice_index old l.tail) (slice_index old l.head) v) → AreLabels n new more
  labels_after long joins = record {
    long = long ∙ w.long;
    label = joined w.label (w.label l.tail) (w.label l.head);
    is = labels_more n w.label ls l more w.is adds fits.tail fits.head;
    same = λ v below. joins v (rw w.long below) ∙ (λ t. cond (eqb (w.same v below t) (tail t)) (head t) (w.same v below t));
  }

  splits_same : splits (slice_index old) l ≡ splits w.label l
  splits_same = (λ t. not (eqb (tail t) (head t)))

  -- a line between two classes leaves the lines a forest
  pub forest_after : splits (slice_index old) l ≡ true → IsAcyclic n ls → IsAcyclic n more
  forest_after two forest = forest_more n w.label ls w.is.closed forest l more adds (split_is n w.label l (sym splits_same ∙ two))

  -- and one within a class doesn't
  pub no_forest_after : splits (slice_index old) l ≡ false → IsAcyclic n more → ⊥
  no_forest_after one forest = circuit n w.label ls l more w.is adds fits.tail fits.head (split_not n w.label l (sym splits_same ∙ one)) forest

-- a line is counted once more where a row goes on by its number
pub row_adds : (ls : List Line) (row : List ℕ) (i : ℕ) (l : Line) → i < length row → slice_get ls (slice_index row i) ≡ Some l → Adds (picked ls (take i row)) l (picked ls (take (i + 1) row))
row_adds ls row i l short e = let next : take (i + 1) row ≡ take i row ++ (slice_index row i ∷ []) = rw add-one (take-suc row i 0 short) in record {
  counts = λ p.
      let longer : count_by (λ j. passes p (slice_get ls j)) (take (i + 1) row) ≡ count_by (λ j. passes p (slice_get ls j)) (take i row) + (weight (passes p (slice_get ls (slice_index row i))) + 0) =
      (λ t. count_by (λ j. passes p (slice_get ls j)) (next t))
      ∙ sum_by-append (λ j. weight (passes p (slice_get ls j))) (take i row) (slice_index row i ∷ [])
      ∙ ap (λ m. count_by (λ j. passes p (slice_get ls j)) (take i row) + m) (sum_by-cons (λ j. weight (passes p (slice_get ls j))) (slice_index row i) []) in
      let here : weight (passes p (slice_get ls (slice_index row i))) ≡ weight (p l) = ap (λ o. weight (passes p o)) e in
      omega (arith, count_by-picked p ls (take i row), count_by-picked p ls (take (i + 1) row));
}

-- the first numbers of a row count no more
pub row_front : (n : ℕ) (ls : List Line) (row : List ℕ) (i : ℕ) → IsAcyclic n (picked ls row) → IsAcyclic n (picked ls (take i row))
row_front n ls row i forest X some =
    let whole = forest X some in
    let inside : ℕ → Bool = λ j. passes (within X) (slice_get ls j) in
    let parts : count_by inside row ≡ count_by inside (take i row) + count_by inside (drop i row) =
    (λ t. count_by inside (sym (take-append-drop i row) t)) ∙ sum_by-append (λ j. weight (inside j)) (take i row) (drop i row) in
    omega (arith, count_by-picked (within X) ls row, count_by-picked (within X) ls (take i row))

weighed-ge : (p : Line → Bool) (ls : List Line) (times : ℕ → ℕ) (j : ℕ) (l : Line) → slice_get ls j ≡ Some l → p l ≡ true → times j ≤ weighed p ls times
weighed-ge p [] times j l e h = absurd cc
weighed-ge p (x ∷ ls) times zero l e h =
    let same : x ≡ l = cc in
    let passing : p x ≡ true = subst (λ y. p y ≡ true) (sym same) h in
    rw passing (omega arith)
weighed-ge p (x ∷ ls) times (suc j) l e h = omega (arith, weighed-ge p ls (λ i. times (suc i)) j l e h)

-- a number past the lines stands in no row of theirs
pub none_past : (m j : ℕ) (row : List ℕ) → All (λ i. i < m) row → m ≤ j → occurrences j row ≡ 0
none_past m j row h past =
    sum_by-agree (λ i. weight (i == j)) (λ _. 0) row (All-weaker (λ i. i < m) (λ i. weight (i == j) ≡ 0) (λ i l. ap weight (ne_eqb i j (λ e. absurd (omega arith)))) row h)
    ∙ sum_by-zero row

-- the two ends of a line
size_ends : (n t h : ℕ) → size (set_of n (λ v. (v == t) || (v == h))) ≤ 2
size_ends n t h =
    let one : (c : ℕ) → sum_by (λ v. weight (v == c)) (range_with_len 0 n) ≤ 1 =
    λ c. sum_one (λ v. weight (v == c)) c 0 n (λ v. weight_most (v == c)) (λ v ne. weight_false (v == c) (ne_eqb v c ne)) in
    omega (
      arith,
      count-map (λ v. (v == t) || (v == h)) (range_with_len 0 n),
      sum_by-le-sum_by (λ v. weight ((v == t) || (v == h))) (λ v. weight (v == t) + weight (v == h)) (range_with_len 0 n) (λ v. weight-or (v == t) (v == h)),
      sum_by-add (λ v. weight (v == t)) (λ v. weight (v == h)) (range_with_len 0 n),
      one t,
      one h,
    )

-- a line twice is a circuit
pub acyclic-distinct : (n : ℕ) (ls : List Line) (row : List ℕ) → All (Fits n) ls → All (λ j. j < length ls) row → IsAcyclic n (picked ls row) → (j : ℕ) → occurrences j row ≤ 1
acyclic-distinct n ls row ends below forest j =
    ⊎_elim
    (λ short.
    let l = get_or ls j no_line in
    let e : slice_get ls j ≡ Some l = slice_get-get_or ls j no_line short in
    let fits : Fits n l = ends j no_line short in
    let pair : ℕ → Bool = λ v. (v == l.tail) || (v == l.head) in
    let tail : has (set_of n pair) l.tail ≡ true = has_of n pair l.tail fits.tail ∙ ap (λ b. b || (l.tail == l.head)) (eq-eqb l.tail l.tail refl) in
    let head : has (set_of n pair) l.head ≡ true = has_of n pair l.head fits.head ∙ or_right (l.head == l.tail) (l.head == l.head) (eq-eqb l.head l.head refl) in
    let few = forest (set_of n pair) (nonempty-has n (set_of n pair) l.tail (length_of n pair) tail) in
    let inside : within (set_of n pair) l ≡ true = and_from (has (set_of n pair) l.tail) (has (set_of n pair) l.head) tail head in
    omega (arith, few, size_ends n l.tail l.head, count_by-picked (within (set_of n pair)) ls row, count_by-picks (within (set_of n pair)) ls row, weighed-ge (within (set_of n pair)) ls (λ i. occurrences i row) j l e inside))
    (λ past. omega (arith, none_past (length ls) j row below past))
    (cases_lt j (length ls))
  where
    or_right : (a b : Bool) → b ≡ true → (a || b) ≡ true
    or_right true b e = refl
    or_right false b e = e

-- a row goes on by the number of line l
module _ (n : ℕ) (ls : List Line) (row : List ℕ) (i : ℕ) (l : Line) (old : List ℕ) (ends : All (Fits n) ls) (short : i < length row) (is : slice_get ls (slice_index row i) ≡ Some l) (labels : AreLabels n old (picked ls (take i row))) where
  fits : Fits n l
  fits = All-slice_get (Fits n) ls ends (slice_index row i) l is

  adds : Adds (picked ls (take i row)) l (picked ls (take (i + 1) row))
  adds = row_adds ls row i l short is

  pub row_tail : l.tail < length old
  row_tail = rw labels.long fits.tail

  pub row_head : l.head < length old
  row_head = rw labels.long fits.head

  pub row_labels : (new : List ℕ) → length new ≡ length old → ((v : ℕ) → v < length old → slice_index new v ≡ joined (slice_index old) (slice_index old l.tail) (slice_index old l.head) v) → AreLabels n new (picked ls (take (i + 1) row))
  row_labels new long joins = labels_after n old new (picked ls (take i row)) (picked ls (take (i + 1) row)) l fits labels adds long joins

  pub row_forest : splits (slice_index old) l ≡ true → IsAcyclic n (picked ls (take i row)) → IsAcyclic n (picked ls (take (i + 1) row))
  row_forest two forest = forest_after n old old (picked ls (take i row)) (picked ls (take (i + 1) row)) l fits labels adds two forest

  pub row_circuit : splits (slice_index old) l ≡ false → IsForest n ls row → ⊥
  row_circuit one forest = no_forest_after n old old (picked ls (take i row)) (picked ls (take (i + 1) row)) l fits labels adds one (row_front n ls row (i + 1) forest.acyclic)

-- distinct lines without a circuit are a forest
pub row_is_forest : (n : ℕ) (ls : List Line) (row : List ℕ) → All (Fits n) ls → All (λ j. j < length ls) row → IsAcyclic n (picked ls row) → IsForest n ls row
row_is_forest n ls row ends below forest = record { picks = record { in_range = below; distinct = acyclic-distinct n ls row ends below forest }; acyclic = forest }
