-- The rows of a union are forests.
use Rattle.std.proofs.Common.{ℕ, zero, suc, ◌≡◌, ◌+◌, ◌<◌, ◌≤◌, Bool, true, false, cond, eqb, List, [], ◌∷◌, length, count_by, sym, refl, ap, ◌∙◌, arith, ⊎_elim}
use Rattle.std.specs.Prelude.{All}
use Rattle.std.specs.List.{concat}
use Rattle.std.proofs.lemmas.Bool.{cases_Bool, both_ways, eq-eqb, or_left, or_right, or_cases}
use Rattle.std.proofs.lemmas.List.Sums.{sum_by-cons, sum_by-append}
use Rattle.std.proofs.lemmas.List.Elements.{All-nil, All-cons, All-from_get_or}
use Rattle.graph_core.specs.Side.{has}
use Rattle.graph_core.specs.Picked.{occurrences, IsDistinct, picked}
use Rattle.graph_core.specs.Trees.{IsAcyclic, IsForest}
use Rattle.graph_core.specs.declared.graph.Line.{Line}
use Rattle.graph_core.proofs.Counting.{weight, weighed, count_by-picked, count_by-picks}
use Rattle.graph_core.specs.Sets.{set_of}
use Rattle.graph_core.proofs.SetLaws.{has_of}
use Rattle.matroid_union.specs.Union.{names, row, IsUnion}
use Rattle.graphic_matroid.specs.Chosen.{chosen}
use Rattle.graph_core.proofs.SizeLaws.{weight_true, weight_false}
use Rattle.graphic_matroid.specs.ChosenLaws.{chosen-cons}
use Rattle.graph_core.proofs.LabelLaws.{forest_same}

-- the lines of a set, counted by number
pub chosen-weighed : (p : Line → Bool) (A : List Bool) (ls : List Line) → count_by p (chosen A ls) ≡ weighed p ls (λ j. weight (has A j))
chosen-weighed p [] [] = refl
chosen-weighed p [] (l ∷ ls) =
    let rest : 0 ≡ weighed p ls (λ _. 0) = chosen-weighed p [] ls in
    elim (p l) as (λ b. 0 ≡ cond b 0 0 + weighed p ls (λ _. 0)) [ true ↦ omega (arith, rest) | false ↦ omega (arith, rest) ]
chosen-weighed p (b ∷ A) [] = refl
chosen-weighed p (b ∷ A) (l ∷ ls) = chosen-cons p b A l ls ∙ (λ t. both b (p l) t + chosen-weighed p A ls t)
  where
    both : (x y : Bool) → cond x (weight y) 0 ≡ cond y (weight x) 0
    both true true = refl
    both true false = refl
    both false true = refl
    both false false = refl

weighed-agree : (p : Line → Bool) (ls : List Line) (f g : ℕ → ℕ) → ((j : ℕ) → j < length ls → f j ≡ g j) → weighed p ls f ≡ weighed p ls g
weighed-agree p [] f g h = refl
weighed-agree p (l ∷ ls) f g h = (λ t. cond (p l) (h 0 (omega arith) t) 0 + weighed-agree p ls (λ j. f (suc j)) (λ j. g (suc j)) (λ j k. h (suc j) (omega arith)) t)

-- a number that stands once at most stands once where it is named
occurs_named : (js : List ℕ) (j : ℕ) → occurrences j js ≤ 1 → occurrences j js ≡ weight (names js j)
occurs_named [] j h = refl
occurs_named (x ∷ js) j h =
    let c = sum_by-cons (λ i. weight (eqb i j)) x js in
    ⊎_elim
    (λ t.
    let one = weight_true (eqb x j) t in
    let all = weight_true (names (x ∷ js) j) (or_left (eqb x j) (names js j) t) in
    omega arith)
    (λ f.
    let zero_here = weight_false (eqb x j) f in
    let rest = occurs_named js j (omega arith) in
    let same : names (x ∷ js) j ≡ names js j = rw f refl in
    let weighs : weight (names (x ∷ js) j) ≡ weight (names js j) = ap weight same in
    omega arith)
    (cases_Bool (eqb x j))

-- the lines with distinct numbers, counted as a set
pub picked-chosen : (ls : List Line) (js : List ℕ) → IsDistinct js → (p : Line → Bool) → count_by p (picked ls js) ≡ count_by p (chosen (set_of (length ls) (names js)) ls)
picked-chosen ls js d p =
    count_by-picked p ls js ∙ count_by-picks p ls js
    ∙ weighed-agree p ls (λ j. occurrences j js) (λ j. weight (has (set_of (length ls) (names js)) j)) (λ j l. occurs_named js j (d j) ∙ ap weight (sym (has_of (length ls) (names js) j l)))
    ∙ sym (chosen-weighed p (set_of (length ls) (names js)) ls)

-- a row is a part of all rows
row-le : (rows : List (List ℕ)) (p j : ℕ) → occurrences j (row rows p) ≤ occurrences j (concat rows)
row-le [] p j = omega arith
row-le (r ∷ rows) zero j = omega (arith, sum_by-append (λ i. weight (eqb i j)) r (concat rows))
row-le (r ∷ rows) (suc p) j = omega (arith, sum_by-append (λ i. weight (eqb i j)) r (concat rows), row-le rows p j)

-- what holds of each named number
All-named : (P : ℕ → Type 0) (js : List ℕ) → ((j : ℕ) → names js j ≡ true → P j) → All P js
All-named P [] h = All-nil P
All-named P (x ∷ js) h =
    All-cons P x js (h x (or_left (eqb x x) (names js x) (eq-eqb x x refl))) (All-named P js (λ j t. h j (or_right (eqb x j) (names js j) t)))

-- a number that a row names stands in all rows
named_once : (js : List ℕ) (j : ℕ) → names js j ≡ true → 1 ≤ occurrences j js
named_once [] j h = absurd (both_ways false refl h)
named_once (x ∷ js) j h =
    ⊎_elim
    (λ a. omega (arith, sum_by-cons (λ i. weight (eqb i j)) x js, weight_true (eqb x j) a))
    (λ b. omega (arith, sum_by-cons (λ i. weight (eqb i j)) x js, named_once js j b))
    (or_cases (eqb x j) (names js j) h)

pub row_in : (rows : List (List ℕ)) (p j : ℕ) → names (row rows p) j ≡ true → 1 ≤ occurrences j (concat rows)
row_in rows p j h = omega (arith, named_once (row rows p) j h, row-le rows p j)

module _ (n : ℕ) (ls : List Line) (k : ℕ) (rows : List (List ℕ)) (reached : List Bool) (u : IsUnion (length ls) (λ A. IsAcyclic n (chosen A ls)) k rows reached) where
  pub row_distinct : (p : ℕ) → IsDistinct (row rows p)
  row_distinct p j = omega (arith, row-le rows p j, u.distinct j)

  pub row_is_forest : (p : ℕ) → p < k → IsForest n ls (row rows p)
  row_is_forest p lp = record {
    picks = record { in_range = All-named (λ j. j < length ls) (row rows p) (λ j h. u.inside p j lp h); distinct = row_distinct p };
    acyclic = forest_same n (chosen (set_of (length ls) (names (row rows p))) ls) (picked ls (row rows p)) (picked-chosen ls (row rows p) (row_distinct p)) (u.parts p lp);
  }

  pub rows_are_forests : All (IsForest n ls) rows
  rows_are_forests = All-from_get_or (IsForest n ls) rows [] (λ p l. row_is_forest p (rw (← u.many) l))
