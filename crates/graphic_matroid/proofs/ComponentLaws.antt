-- Components by labels.
use Rattle.std.proofs.Common.{ℕ, zero, suc, ◌≡◌, ◌≢◌, ◌+◌, ◌<◌, ◌≤◌, Bool, true, false, cond, not, eqb, ◌&&◌, List, [], ◌∷◌, ◌++◌, length, get_or, map, count_by, sym, refl, ap, ◌∙◌, subst, arith, ⊎_elim, zero-add}
use Rattle.std.specs.Prelude.{All}
use Rattle.std.specs.List.{filter, range_with_len}
use Rattle.std.proofs.lemmas.Bool.{cases_Bool, cases_lt, eqb-true, eq-eqb, ne_eqb, and_parts, and_from, false_from_ne_true}
use Rattle.std.proofs.lemmas.List.{map-id, map-append, append-nil}
use Rattle.std.proofs.lemmas.List.FromFn.{length-range_with_len, get_or-range_with_len, filter_of_map_range_with_len_more}
use Rattle.std.proofs.lemmas.List.Elements.{All-nil, All-cons, All-map}
use Rattle.std.proofs.lemmas.List.Sums.{get_or-le-sum_by}
use Rattle.graph_core.specs.Side.{has, IsNonempty}
use Rattle.graph_core.specs.Lines.{within, differ, parted, degree}
use Rattle.graph_core.specs.Families.{members_with}
use Rattle.graph_core.specs.declared.graph.Line.{Line}
use Rattle.graph_core.proofs.Counting.{weight}
use Rattle.graph_core.proofs.FamilyLaws.{count_by-map, parted-or-within}
use Rattle.graph_core.proofs.SetLaws.{length_of}
use Rattle.graph_core.specs.Labels.{class, splits}
use Rattle.graphic_matroid.specs.Unfit.{unfit}
use Rattle.graphic_matroid.specs.Roots.{AreClasses, IsRootOf}
use Rattle.graphic_matroid.specs.Components.{AreComponents, classes_of}
use Rattle.graph_core.proofs.SizeLaws.{weight_true, weight_false, weight_most, count-filter, count-le_three, sum_one}
use Rattle.graph_core.proofs.SideLaws.{nonempty-has}
use Rattle.graph_core.proofs.LabelLaws.{in_class, to_class, split_not}
use Rattle.graphic_matroid.specs.ForestLaws.{fit_ends}

-- one number more
filter_more : (f : ℕ → Bool) (i : ℕ) → filter f (range_with_len 0 (i + 1)) ≡ filter f (range_with_len 0 i) ++ cond (f i) (i ∷ []) []
filter_more f i =
    ap (filter f) (sym (map-id (range_with_len 0 (i + 1))))
    ∙ filter_of_map_range_with_len_more f (λ v. v) 0 i i (zero-add i)
    ∙ ap (λ r. filter f r ++ cond (f i) (i ∷ []) []) (map-id (range_with_len 0 i))

-- what holds of each number that passes
All-filter : (P : ℕ → Type 0) (f : ℕ → Bool) (a n : ℕ) → ((r : ℕ) → a ≤ r → r < a + n → f r ≡ true → P r) → All P (filter f (range_with_len a n))
All-filter P f a zero h = All-nil P
All-filter P f a (suc n) h =
    let rest = All-filter P f (a + 1) n (λ r l u t. h r (omega arith) (omega arith) t) in
    (elim (f a) as (λ b. f a ≡ b → All P (cond b (a ∷ filter f (range_with_len (a + 1) n)) (filter f (range_with_len (a + 1) n))))
    [ true ↦ (λ t. All-cons P a (filter f (range_with_len (a + 1) n)) (h a (omega arith) (omega arith) t) rest) | false ↦ (λ _. rest) ]) refl

module _ (n : ℕ) (lab : ℕ → ℕ) where
  abbrev is_root : ℕ → Bool
  is_root r = eqb (lab r) r

  -- the classes as far as node i
  pub class_more : (i : ℕ) → lab i ≡ i → map (class n lab) (filter is_root (range_with_len 0 (i + 1))) ≡ map (class n lab) (filter is_root (range_with_len 0 i)) ++ class n lab i ∷ []
  class_more i e =
      ap (map (class n lab)) (filter_more is_root i ∙ ap (λ b. filter is_root (range_with_len 0 i) ++ cond b (i ∷ []) []) (eq-eqb (lab i) i e))
      ∙ map-append (class n lab) (filter is_root (range_with_len 0 i)) (i ∷ [])

  pub class_same : (i : ℕ) → lab i ≢ i → map (class n lab) (filter is_root (range_with_len 0 (i + 1))) ≡ map (class n lab) (filter is_root (range_with_len 0 i))
  class_same i ne =
      ap (map (class n lab)) (filter_more is_root i ∙ ap (λ b. filter is_root (range_with_len 0 i) ++ cond b (i ∷ []) []) (ne_eqb (lab i) i ne) ∙ append-nil (filter is_root (range_with_len 0 i)))

  All-classes : (P : List Bool → Type 0) → ((r : ℕ) → r < n → lab r ≡ r → P (class n lab r)) → All P (classes_of n lab)
  All-classes P h = All-map P (class n lab) (filter is_root (range_with_len 0 n)) (All-filter (λ r. P (class n lab r)) is_root 0 n (λ r l u t. h r (omega arith) (eqb-true (lab r) r t)))

  count-classes : (q : List Bool → Bool) → count_by q (classes_of n lab) ≡ count_by (λ r. is_root r && q (class n lab r)) (range_with_len 0 n)
  count-classes q = count_by-map q (class n lab) (filter is_root (range_with_len 0 n)) ∙ count-filter (λ r. q (class n lab r)) is_root (range_with_len 0 n)

  -- a class that passes is counted
  count-some : (q : List Bool → Bool) (r : ℕ) → r < n → lab r ≡ r → q (class n lab r) ≡ true → 1 ≤ count_by q (classes_of n lab)
  count-some q r l e t =
      let here : get_or (range_with_len 0 n) r 0 ≡ r = get_or-range_with_len 0 n r 0 l ∙ zero-add r in
      let term : weight (is_root r && q (class n lab r)) ≤ count_by (λ s. is_root s && q (class n lab s)) (range_with_len 0 n) =
      subst (λ x. weight (is_root x && q (class n lab x)) ≤ count_by (λ s. is_root s && q (class n lab s)) (range_with_len 0 n)) here
      (get_or-le-sum_by (λ s. weight (is_root s && q (class n lab s))) (range_with_len 0 n) r 0 (rw (length-range_with_len 0 n) l)) in
      omega (arith, count-classes q, weight_true (is_root r && q (class n lab r)) (and_from (is_root r) (q (class n lab r)) (eq-eqb (lab r) r e) t))

  -- no node is in two classes
  members-once : (v : ℕ) → members_with v (classes_of n lab) ≤ 1
  members-once v =
      let once = sum_one (λ r. weight (is_root r && has (class n lab r) v)) (lab v) 0 n (λ r. weight_most (is_root r && has (class n lab r) v))
      (λ r ne. weight_false (is_root r && has (class n lab r) v) (false_from_ne_true (is_root r && has (class n lab r) v) (λ t. ne (sym (in_class n lab r v (and_parts (is_root r) (has (class n lab r) v) t).1).1)))) in
      omega (arith, count-classes (λ X. has X v))

-- a side as a labelling by 0 and 1
pub differ_weights : (a b : Bool) → not (eqb (weight a) (weight b)) ≡ differ a b
differ_weights true true = refl
differ_weights true false = refl
differ_weights false true = refl
differ_weights false false = refl

module _ (n : ℕ) (parents : List ℕ) (ls : List Line) (fit : count_by (unfit n) ls ≡ 0) (long : length parents ≡ n) (w : AreClasses n parents ls) (lab : ℕ → ℕ) (each : (v : ℕ) → v < n → IsRootOf parents v (lab v)) where
  below : (v : ℕ) → v < n → lab v < n
  below v l = rw (← long) (each v l).below

  label_is : (v : ℕ) → v < n → w.label (lab v) ≡ w.label v
  label_is v l = (each v l).same w.label (λ u lu. w.along u (rw (← long) lu))

  -- nodes of one label have one root
  one_root : (u v : ℕ) → u < n → v < n → w.label u ≡ w.label v → lab u ≡ lab v
  one_root u v lu lv e = w.apart (lab u) (lab v) (below u lu) (below v lv) (each u lu).root (each v lv).root (label_is u lu ∙ e ∙ sym (label_is v lv))

  root_root : (v : ℕ) → v < n → lab (lab v) ≡ lab v
  root_root v l = one_root (lab v) v (below v l) l (label_is v l)

  -- a line within a label isn't parted
  parted_splits : (l : Line) → weight (parted (classes_of n lab) l) ≤ weight (splits w.label l) + weight (unfit n l) + weight (unfit n l)
  parted_splits l =
      ⊎_elim
      (λ s. omega (arith, weight_true (splits w.label l) s, weight_most (parted (classes_of n lab) l)))
      (λ s. ⊎_elim
      (λ o. omega (arith, weight_true (unfit n l) o, weight_most (parted (classes_of n lab) l)))
      (λ o.
      let ends = fit_ends n l o in
      let same : lab l.head ≡ lab l.tail = sym (one_root l.tail l.head ends.0 ends.1 (split_not n w.label l s)) in
      let inside : within (class n lab (lab l.tail)) l ≡ true = and_from (has (class n lab (lab l.tail)) l.tail) (has (class n lab (lab l.tail)) l.head) (to_class n lab (lab l.tail) l.tail ends.0 refl) (to_class n lab (lab l.tail) l.head ends.1 same) in
      omega (arith, count-some n lab (λ X. within X l) (lab l.tail) (below l.tail ends.0) (root_root l.tail ends.0) inside, parted-or-within (classes_of n lab) l (members-once n lab l.tail)))
      (cases_Bool (unfit n l)))
      (cases_Bool (splits w.label l))

  crossed : (X : List Bool) (r : ℕ) → r < n → (u v : ℕ) → has (class n lab r) u ≡ true → has (class n lab r) v ≡ true → has X u ≡ true → has X v ≡ false → 1 ≤ degree X ls
  crossed X r lr u v hu hv xu xv =
      ⊎_elim (λ some. some)
      (λ none.
      let at_u = in_class n lab r u hu in
      let at_v = in_class n lab r v hv in
      let uncut : count_by (splits (λ x. weight (has X x))) ls ≡ 0 = (λ t. count_by (λ l. differ_weights (has X l.tail) (has X l.head) t) ls) ∙ (let z : degree X ls ≡ 0 = omega arith in z) in
      let one : w.label u ≡ w.label v = sym (label_is u at_u.0) ∙ ap w.label (at_u.1 ∙ sym at_v.1) ∙ label_is v at_v.0 in
      let same : weight (has X u) ≡ weight (has X v) = w.finest.coarser (λ x. weight (has X x)) uncut u v one in
      absurd (omega (arith, same, weight_true (has X u) xu, weight_false (has X v) xv)))
      (cases_lt 0 (degree X ls))

  pub components_of : AreComponents n ls (classes_of n lab)
  components_of = record {
    partition = record {
      nonempty = All-classes n lab (IsNonempty n) (λ r l e. nonempty-has n (class n lab r) r (length_of n (λ v. eqb (lab v) r)) (to_class n lab r r l e));
      each = λ v l. omega (arith, members-once n lab v, count-some n lab (λ X. has X v) (lab v) (below v l) (root_root v l) (to_class n lab (lab v) v l refl));
    };
    apart = omega (arith, count-le_three (parted (classes_of n lab)) (splits w.label) (unfit n) (unfit n) parted_splits ls, w.is.closed);
    joined = λ X. All-classes n lab (λ C. (u v : ℕ) → has C u ≡ true → has C v ≡ true → has X u ≡ true → has X v ≡ false → 1 ≤ degree X ls) (λ r l e. crossed X r l);
  }
