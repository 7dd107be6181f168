-- What the reached lines say of disjoint forests.
use Rattle.std.proofs.Common.{ℕ, zero, suc, ◌≡◌, ◌+◌, ◌*◌, ◌<◌, ◌≤◌, Bool, true, false, eqb, ◌&&◌, ◌⊎◌, inl, inr, List, [], ◌∷◌, length, get_or, set, count_by, sym, refl, ap, ◌∙◌, arith, ⊎_elim, subst}
use Rattle.std.specs.Prelude.{All}
use Rattle.std.proofs.lemmas.Bool.{cases_eq, cases_Bool, both_ways, eqb-true, eq-eqb, ne_eqb, and_parts, and_from, false_from_ne_true, true_from_ne_false, or_cases}
use Rattle.std.proofs.lemmas.List.{get_or-set_same, get_or-set_other, get_or_default}
use Rattle.std.proofs.lemmas.List.FromFn.{fill_by_all}
use Rattle.std.proofs.lemmas.List.Sums.{get_or-le-sum_by}
use Rattle.graph_core.specs.Side.{has, size}
use Rattle.graph_core.specs.Lines.{within, crosses, differ, parted, degree}
use Rattle.graph_core.specs.Families.{IsPartition}
use Rattle.graph_core.specs.Trees.{IsAcyclic}
use Rattle.graph_core.specs.declared.graph.Line.{Line}
use Rattle.graph_core.proofs.Counting.{weight}
use Rattle.graph_core.proofs.CutLaws.{differ_same}
use Rattle.graph_core.proofs.FamilyLaws.{parted-or-within}
use Rattle.matroid_union.specs.Sets.{plus}
use Rattle.graph_core.specs.Sets.{set_of}
use Rattle.matroid_union.specs.Union.{names, row, IsUnion}
use Rattle.graph_core.proofs.SetLaws.{length_of, has_of}
use Rattle.graphic_matroid.specs.Chosen.{chosen}
use Rattle.graph_core.specs.Labels.{class, splits, Labels}
use Rattle.graphic_matroid.specs.Unfit.{unfit}
use Rattle.graphic_matroid.specs.Components.{AreComponents}
use Rattle.graph_core.proofs.SizeLaws.{weight_true, weight_false, weight_most, count-cons, count-le_three}
use Rattle.graph_core.proofs.SideLaws.{has-below}
use Rattle.graphic_matroid.specs.ChosenLaws.{chosen-le, chosen-all, chosen-set, chosen-some, chosen-find}
use Rattle.graph_core.proofs.LabelLaws.{in_class, to_class, split_is, split_not, forest_more}
use Rattle.graphic_matroid.specs.ForestLaws.{labels_exist, Labelled, fit_ends}
use Rattle.graphic_matroid.proofs.ComponentLaws.{differ_weights}
use Rattle.graph_core.specs.Graph.{no_line}

-- the reached lines of part p
abbrev pub kept_lines : List (List ℕ) → List Bool → ℕ → ℕ → Bool
kept_lines rows reached p = λ i. names (row rows p) i && has reached i

-- the first that passes, or none
pub find_below : (f : ℕ → Bool) (k : ℕ) → ((p : ℕ) × (p < k) × (f p ≡ true)) ⊎ ((p : ℕ) → p < k → f p ≡ false)
find_below f zero = inr (λ p l. absurd (omega arith))
find_below f (suc k) =
    ⊎_elim
    (λ w. let l : w.0 < k = w.1 in inl (w.0, omega arith, w.2))
    (λ none. ⊎_elim
    (λ t. inl (k, omega arith, t))
    (λ g. inr (λ p l. ⊎_elim (λ e. ap f e ∙ g) (λ ne. none p (omega arith)) (cases_eq p k)))
    (cases_Bool (f k)))
    (find_below f k)

-- a side has as many of the two ends as say whether the line crosses it or lies within
crosses_and_within : (a b : Bool) → weight (differ a b) + 2 * weight (a && b) ≡ weight a + weight b
crosses_and_within true true = refl
crosses_and_within true false = refl
crosses_and_within false true = refl
crosses_and_within false false = refl

count_weights_three : {X : Type 0} (p q r s : X → Bool) → ((x : X) → weight (p x) + 2 * weight (q x) ≡ weight (r x) + weight (s x)) → (xs : List X) → count_by p xs + 2 * count_by q xs ≡ count_by r xs + count_by s xs
count_weights_three p q r s h [] = refl
count_weights_three p q r s h (x ∷ xs) = omega (arith, count-cons p x xs, count-cons q x xs, count-cons r x xs, count-cons s x xs, h x, count_weights_three p q r s h xs)

module _ (n : ℕ) (ls : List Line) (fit : count_by (unfit n) ls ≡ 0) (k : ℕ) (rows : List (List ℕ)) (reached : List Bool) (u : IsUnion (length ls) (λ A. IsAcyclic n (chosen A ls)) k rows reached) where
  abbrev kept_set : ℕ → List Bool
  kept_set p = set_of (length ls) (kept_lines rows reached p)

  fit_part : (A : List Bool) → count_by (unfit n) (chosen A ls) ≡ 0
  fit_part A = let a = chosen-all (unfit n) A ls in omega arith

  part_labels : (p : ℕ) → Labelled n (chosen (set_of (length ls) (kept_lines rows reached p)) ls)
  part_labels p = labels_exist n (chosen (kept_set p) ls) (fit_part (kept_set p))

  in_kept : (p e : ℕ) → e < length ls → has (kept_set p) e ≡ true → (names (row rows p) e ≡ true) × (has reached e ≡ true)
  in_kept p e l h = and_parts (names (row rows p) e) (has reached e) (sym (has_of (length ls) (kept_lines rows reached p) e l) ∙ h)

  to_kept : (p e : ℕ) → e < length ls → names (row rows p) e ≡ true → has reached e ≡ true → has (kept_set p) e ≡ true
  to_kept p e l a b = has_of (length ls) (kept_lines rows reached p) e l ∙ and_from (names (row rows p) e) (has reached e) a b

  -- a subset of a part is a forest
  part_forest : (p : ℕ) → p < k → (A : List Bool) → ((e : ℕ) → e < length ls → has A e ≡ true → names (row rows p) e ≡ true) → IsAcyclic n (chosen A ls)
  part_forest p l A sub X w =
      let whole : count_by (within X) (chosen (set_of (length ls) (names (row rows p))) ls) < size X = u.parts p l X w in
      omega (arith, chosen-le (within X) A (set_of (length ls) (names (row rows p))) ls (λ e le h. has_of (length ls) (names (row rows p)) e le ∙ sub e le h))

  kept_forest : (p : ℕ) → p < k → IsAcyclic n (chosen (set_of (length ls) (kept_lines rows reached p)) ls)
  kept_forest p l = part_forest p l (kept_set p) (λ e le h. (in_kept p e le h).0)

  -- no reached line joins two classes of the reached lines of a part
  part_closed : (p : ℕ) → p < k → (lab : ℕ → ℕ) → Labels n lab (chosen (set_of (length ls) (kept_lines rows reached p)) ls) → count_by (splits lab) (chosen reached ls) ≡ 0
  part_closed p lp lab w =
      ⊎_elim
      (λ found.
      let e : ℕ = found.0 in
      let l : found.0 < length ls = found.1 in
      absurd (⊎_elim
      (λ yes_p.
      let some = chosen-some (splits lab) (kept_set p) ls found.0 no_line l (to_kept p found.0 l yes_p found.2) found.3 in
      let none = w.closed in
      omega arith)
      (λ no_p.
      let fresh : has (kept_set p) found.0 ≡ false = false_from_ne_true (has (kept_set p) found.0) (λ t. both_ways (names (row rows p) found.0) no_p (in_kept p found.0 l t).0) in
      let short : found.0 < length (kept_set p) = rw (length_of (length ls) (kept_lines rows reached p)) l in
      let more : IsAcyclic n (chosen (set (kept_set p) found.0 true) ls) =
      forest_more n lab (chosen (kept_set p) ls) w.closed (kept_forest p lp) (get_or ls found.0 no_line) (chosen (set (kept_set p) found.0 true) ls)
      (record { counts = λ q. chosen-set q (kept_set p) ls found.0 no_line short l fresh }) (split_is n lab (get_or ls found.0 no_line) found.3) in
      u.spans p found.0 lp l no_p found.2
      (λ X ne.
      let large : count_by (within X) (chosen (set (kept_set p) found.0 true) ls) < size X = more X ne in
      omega (arith, chosen-le (within X) (set_of (length ls) (plus (kept_lines rows reached p) found.0)) (set (kept_set p) found.0 true) ls (λ i li h. grown p found.0 i short li h))))
      (cases_Bool (names (row rows p) found.0))))
      (λ none. none)
      (chosen-find (splits lab) reached ls no_line)
    where
      grown : (q e i : ℕ) → e < length (set_of (length ls) (kept_lines rows reached q)) → i < length ls → has (set_of (length ls) (plus (kept_lines rows reached q) e)) i ≡ true → has (set (set_of (length ls) (kept_lines rows reached q)) e true) i ≡ true
      grown q e i le li h =
          ⊎_elim
          (λ same. subst (λ x. has (set (set_of (length ls) (kept_lines rows reached q)) e true) x ≡ true) (sym same) (get_or-set_same (set_of (length ls) (kept_lines rows reached q)) e true false le))
          (λ ne.
          let was : plus (kept_lines rows reached q) e i ≡ true = sym (has_of (length ls) (plus (kept_lines rows reached q) e) i li) ∙ h in
          get_or-set_other (set_of (length ls) (kept_lines rows reached q)) e i true false ne ∙ has_of (length ls) (kept_lines rows reached q) i li
          ∙ ⊎_elim (λ a. a) (λ b. absurd (ne (eqb-true i e b))) (or_cases (kept_lines rows reached q i) (eqb i e) was))
          (cases_eq i e)

  -- a line that crosses a class is parted, or has an end past the nodes
  crosses_parted : (P : List (List Bool)) → IsPartition n P → (C : List Bool) → ((l : Line) → weight (crosses C l) ≤ count_by (λ X. crosses X l) P) → (l : Line) → weight (crosses C l) ≤ weight (parted P l) + weight (unfit n l) + weight (unfit n l)
  crosses_parted P part C some l =
      ⊎_elim
      (λ o. omega (arith, weight_true (unfit n l) o, weight_most (crosses C l)))
      (λ o.
      let ends = fit_ends n l o in
      let all = count_weights_three (λ X. crosses X l) (λ X. within X l) (λ X. has X l.tail) (λ X. has X l.head) (λ X. crosses_and_within (has X l.tail) (has X l.head)) P in
      omega (arith, some l, parted-or-within P l (let one = part.each l.tail ends.0 in omega arith), part.each l.tail ends.0, part.each l.head ends.1, weight_most (parted P l), weight_most (crosses C l)))
      (cases_Bool (unfit n l))

  module _ (P : List (List Bool)) (w : AreComponents n (chosen reached ls) P) (p : ℕ) (lp : p < k) where
    abbrev label : ℕ → ℕ
    label = (part_labels p).lab

    -- a reached line joins no two labels
    uncut : (X : List Bool) → ((u v : ℕ) → u < n → v < n → label u ≡ label v → has X u ≡ has X v) → degree X (chosen reached ls) ≡ 0
    uncut X same =
        let none = part_closed p lp label (part_labels p).is in
        let fits = fit_part reached in
        let le = count-le_three (crosses X) (splits label) (unfit n) (unfit n) each (chosen reached ls) in
        omega arith
      where
        each : (l : Line) → weight (crosses X l) ≤ weight (splits label l) + weight (unfit n l) + weight (unfit n l)
        each l =
            ⊎_elim
            (λ s. omega (arith, weight_true (splits label l) s, weight_most (crosses X l)))
            (λ s. ⊎_elim
            (λ o. omega (arith, weight_true (unfit n l) o, weight_most (crosses X l)))
            (λ o.
            let ends = fit_ends n l o in
            let alike = same l.tail l.head ends.0 ends.1 (split_not n label l s) in
            omega (arith, weight_false (crosses X l) (differ_same (has X l.tail) (has X l.head) alike)))
            (cases_Bool (unfit n l)))
            (cases_Bool (splits label l))

    module _ (C : List Bool) (long : length C ≡ n) (whole : (l : Line) → weight (crosses C l) ≤ count_by (λ X. crosses X l) P) (joined : (X : List Bool) (u v : ℕ) → has C u ≡ true → has C v ≡ true → has X u ≡ true → has X v ≡ false → 1 ≤ degree X (chosen reached ls)) (v0 : ℕ) (in_c : has C v0 ≡ true) where
      one_label : (u : ℕ) → has C u ≡ true → label u ≡ label v0
      one_label u h =
          ⊎_elim (λ e. e)
          (λ ne.
          let lu : u < n = subst (λ m. u < m) long (has-below C u h) in
          let X : List Bool = class n label (label u) in
          let none = uncut (class n label (label u)) (λ a b la lb e. has_of n (λ v. eqb (label v) (label u)) a la ∙ ap (λ x. eqb x (label u)) e ∙ sym (has_of n (λ v. eqb (label v) (label u)) b lb)) in
          let out : has (class n label (label u)) v0 ≡ false = false_from_ne_true (has (class n label (label u)) v0) (λ t. ne (sym (in_class n label (label u) v0 t).1)) in
          let some = joined (class n label (label u)) u v0 h in_c (to_class n label (label u) u lu refl) out in
          absurd (omega arith))
          (cases_eq (label u) (label v0))

      one_class : (u : ℕ) → label u ≡ label v0 → has C u ≡ true
      one_class u e =
          let among = chosen-le (splits (λ x. weight (has C x))) (kept_set p) reached ls (λ i l h. (in_kept p i l h).1) in
          let same : count_by (splits (λ x. weight (has C x))) (chosen reached ls) ≡ degree C (chosen reached ls) = λ t. count_by (λ l. differ_weights (has C l.tail) (has C l.head) t) (chosen reached ls) in
          let le = count-le_three (crosses C) (parted P) (unfit n) (unfit n) (crosses_parted P w.partition C whole) (chosen reached ls) in
          let none = w.apart in
          let fits = fit_part reached in
          let alike : weight (has C u) ≡ weight (has C v0) = (part_labels p).finest.coarser (λ x. weight (has C x)) (omega arith) u v0 e in
          true_from_ne_false (has C u) (λ f. absurd (omega (arith, alike, weight_false (has C u) f, weight_true (has C v0) in_c)))

      class_is : C ≡ class n label (label v0)
      class_is = fill_by_all (λ v. eqb (label v) (label v0)) C n false long at
        where
          at : (v : ℕ) → v < n → has C v ≡ eqb (label v) (label v0)
          at v l =
              ⊎_elim
              (λ t. t ∙ sym (eq-eqb (label v) (label v0) (one_label v t)))
              (λ f. f ∙ sym (ne_eqb (label v) (label v0) (λ e. both_ways (has C v) f (one_class v e))))
              (cases_Bool (has C v))

      class_tight : size C ≤ count_by (within C) (chosen (set_of (length ls) (kept_lines rows reached p)) ls) + 1
      class_tight = subst (λ X. size X ≤ count_by (within X) (chosen (kept_set p) ls) + 1) (sym class_is) ((part_labels p).is.tight (label v0))

  -- the reached lines of a part join the nodes of each class
  pub classes_tight : (P : List (List Bool)) → AreComponents n (chosen reached ls) P → (p : ℕ) → p < k → All (λ C. size C ≤ count_by (within C) (chosen (set_of (length ls) (kept_lines rows reached p)) ls) + 1) P
  classes_tight P w p lp i d l =
      let C = get_or P i d in
      let some = w.partition.nonempty i d l in
      let at : has (get_or P i d) some.some_in.0 ≡ true = get_or_default (get_or P i d) some.some_in.0 false true some.some_in.1 ∙ some.some_in.2 in
      class_tight P w p lp (get_or P i d) some.long (λ x. get_or-le-sum_by (λ X. weight (crosses X x)) P i d l) (λ X. w.joined X i d l) some.some_in.0 at
