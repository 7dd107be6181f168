-- Joining two classes by a line.
use Rattle.std.proofs.Common.{ℕ, ◌≡◌, ◌≢◌, ◌+◌, ◌<◌, ◌≤◌, true, false, cond, eqb, ◌⊎◌, inl, inr, List, count_by, sym, refl, ap, ◌∙◌, arith, ⊎_elim, subst}
use Rattle.std.proofs.lemmas.Bool.{cases_eq, cases_Bool, eq-eqb, ne_eqb, and_parts, and_from}
use Rattle.graph_core.specs.Side.{has, size}
use Rattle.graph_core.specs.Lines.{within}
use Rattle.graph_core.specs.declared.graph.Line.{Line}
use Rattle.graph_core.specs.Sets.{set_of}
use Rattle.graph_core.specs.Labels.{class, splits, joined, Labels, Adds}
use Rattle.graph_core.proofs.LabelLaws.{in_class, to_class, split_not, split_no}
use Rattle.graph_core.proofs.Counting.{weight}
use Rattle.graph_core.proofs.FamilyLaws.{count_by-le}
use Rattle.graph_core.proofs.SetLaws.{length_of}
use Rattle.graph_core.proofs.SizeLaws.{weight_true, weight_false, weight_most, count-le_both, size-le_sum, size-none}

module _ (lab : ℕ → ℕ) (a b : ℕ) where
  pub joined_at : (v : ℕ) → lab v ≡ a → joined lab a b v ≡ b
  joined_at v e = ap (λ t. cond t b (lab v)) (eq-eqb (lab v) a e)

  pub joined_off : (v : ℕ) → lab v ≢ a → joined lab a b v ≡ lab v
  joined_off v ne = ap (λ t. cond t b (lab v)) (ne_eqb (lab v) a ne)

  pub joined_same : (u v : ℕ) → lab u ≡ lab v → joined lab a b u ≡ joined lab a b v
  joined_same u v e = ap (λ x. cond (eqb x a) b x) e

  -- where a and b are one label, nothing changes
  pub joined_none : a ≡ b → joined lab a b ≡ lab
  joined_none e = λ t v. at v t
    where
      at : (v : ℕ) → joined lab a b v ≡ lab v
      at v = ⊎_elim (λ s. joined_at v s ∙ sym e ∙ sym s) (λ ne. joined_off v ne) (cases_eq (lab v) a)

module _ (n : ℕ) (lab : ℕ → ℕ) (ls : List Line) (l : Line) (more : List Line) (w : Labels n lab ls) (adds : Adds ls l more) (lt : l.tail < n) (lh : l.head < n) where
  abbrev new : ℕ → ℕ
  new = joined lab (lab l.tail) (lab l.head)

  below_after : (v : ℕ) → v < n → joined lab (lab l.tail) (lab l.head) v < n
  below_after v lv =
      ⊎_elim
      (λ e. let same = joined_at lab (lab l.tail) (lab l.head) v e in let h = w.below l.head lh in omega arith)
      (λ ne. let same = joined_off lab (lab l.tail) (lab l.head) v ne in let h = w.below v lv in omega arith)
      (cases_eq (lab v) (lab l.tail))

  closed_after : count_by (splits (joined lab (lab l.tail) (lab l.head))) more ≡ 0
  closed_after =
      let here : splits (joined lab (lab l.tail) (lab l.head)) l ≡ false = split_no n (joined lab (lab l.tail) (lab l.head)) l (joined_at lab (lab l.tail) (lab l.head) l.tail refl ∙ sym (head_joined)) in
      let old : count_by (splits (joined lab (lab l.tail) (lab l.head))) ls ≤ count_by (splits lab) ls = count_by-le (splits (joined lab (lab l.tail) (lab l.head))) (splits lab) (λ x. each x) ls in
      omega (arith, adds.counts (splits (joined lab (lab l.tail) (lab l.head))), weight_false (splits (joined lab (lab l.tail) (lab l.head)) l) here, w.closed)
    where
      head_joined : joined lab (lab l.tail) (lab l.head) l.head ≡ lab l.head
      head_joined = ⊎_elim (λ e. joined_at lab (lab l.tail) (lab l.head) l.head e) (λ ne. joined_off lab (lab l.tail) (lab l.head) l.head ne) (cases_eq (lab l.head) (lab l.tail))

      each : (x : Line) → weight (splits (joined lab (lab l.tail) (lab l.head)) x) ≤ weight (splits lab x)
      each x =
          ⊎_elim
          (λ s. omega (arith, weight_true (splits lab x) s, weight_most (splits (joined lab (lab l.tail) (lab l.head)) x)))
          (λ s. omega (arith, weight_false (splits (joined lab (lab l.tail) (lab l.head)) x) (split_no n (joined lab (lab l.tail) (lab l.head)) x (joined_same lab (lab l.tail) (lab l.head) x.tail x.head (split_not n lab x s)))))
          (cases_Bool (splits lab x))

  -- the same classes, with a line more
  tight_same : (r : ℕ) → class n (joined lab (lab l.tail) (lab l.head)) r ≡ class n lab r → size (class n (joined lab (lab l.tail) (lab l.head)) r) ≤ count_by (within (class n (joined lab (lab l.tail) (lab l.head)) r)) more + 1
  tight_same r e =
      let was = w.tight r in
      let now = adds.counts (within (class n lab r)) in
      subst (λ C. size C ≤ count_by (within C) more + 1) (sym e) (omega arith)

  module _ (ne : lab l.tail ≢ lab l.head) where
    class_other : (r : ℕ) → r ≢ lab l.tail → r ≢ lab l.head → class n (joined lab (lab l.tail) (lab l.head)) r ≡ class n lab r
    class_other r na nb = ap (set_of n) (λ t v. at v t)
      where
        at : (v : ℕ) → eqb (joined lab (lab l.tail) (lab l.head) v) r ≡ eqb (lab v) r
        at v =
            ⊎_elim
            (λ e. ap (λ x. eqb x r) (joined_at lab (lab l.tail) (lab l.head) v e) ∙ ne_eqb (lab l.head) r (λ h. nb (sym h)) ∙ sym (ne_eqb (lab v) r (λ h. na (sym h ∙ e))))
            (λ off. ap (λ x. eqb x r) (joined_off lab (lab l.tail) (lab l.head) v off))
            (cases_eq (lab v) (lab l.tail))

    -- the class that lost its label
    tight_lost : size (class n (joined lab (lab l.tail) (lab l.head)) (lab l.tail)) ≡ 0
    tight_lost = size-none (class n (joined lab (lab l.tail) (lab l.head)) (lab l.tail)) none
      where
        not_a : (v : ℕ) → joined lab (lab l.tail) (lab l.head) v ≡ lab l.tail → ⊥
        not_a v h =
            ⊎_elim
            (λ e. ne (sym h ∙ joined_at lab (lab l.tail) (lab l.head) v e))
            (λ off. off (sym (joined_off lab (lab l.tail) (lab l.head) v off) ∙ h))
            (cases_eq (lab v) (lab l.tail))

        none : (v : ℕ) → has (class n (joined lab (lab l.tail) (lab l.head)) (lab l.tail)) v ≡ false
        none v = ⊎_elim (λ t. absurd (not_a v (in_class n (joined lab (lab l.tail) (lab l.head)) (lab l.tail) v t).1)) (λ f. f) (cases_Bool (has (class n (joined lab (lab l.tail) (lab l.head)) (lab l.tail)) v))

    -- the class of both
    from_either : (v : ℕ) → (has (class n lab (lab l.tail)) v ≡ true) ⊎ (has (class n lab (lab l.head)) v ≡ true) → has (class n (joined lab (lab l.tail) (lab l.head)) (lab l.head)) v ≡ true
    from_either v h =
        ⊎_elim
        (λ t. let w = in_class n lab (lab l.tail) v t in to_class n (joined lab (lab l.tail) (lab l.head)) (lab l.head) v w.0 (joined_at lab (lab l.tail) (lab l.head) v w.1))
        (λ t. let w = in_class n lab (lab l.head) v t in to_class n (joined lab (lab l.tail) (lab l.head)) (lab l.head) v w.0 (joined_off lab (lab l.tail) (lab l.head) v (λ e. ne (sym e ∙ w.1)) ∙ w.1))
        h

    to_either : (v : ℕ) → has (class n (joined lab (lab l.tail) (lab l.head)) (lab l.head)) v ≡ true → (has (class n lab (lab l.tail)) v ≡ true) ⊎ (has (class n lab (lab l.head)) v ≡ true)
    to_either v t =
        let w = in_class n (joined lab (lab l.tail) (lab l.head)) (lab l.head) v t in
        ⊎_elim
        (λ e. inl (to_class n lab (lab l.tail) v w.0 e))
        (λ off. inr (to_class n lab (lab l.head) v w.0 (sym (joined_off lab (lab l.tail) (lab l.head) v off) ∙ w.1)))
        (cases_eq (lab v) (lab l.tail))

    sizes : (v : ℕ) → weight (has (class n (joined lab (lab l.tail) (lab l.head)) (lab l.head)) v) ≤ weight (has (class n lab (lab l.tail)) v) + weight (has (class n lab (lab l.head)) v)
    sizes v =
        ⊎_elim
        (λ t. ⊎_elim
        (λ x. omega (arith, weight_true (has (class n lab (lab l.tail)) v) x, weight_most (has (class n (joined lab (lab l.tail) (lab l.head)) (lab l.head)) v)))
        (λ x. omega (arith, weight_true (has (class n lab (lab l.head)) v) x, weight_most (has (class n (joined lab (lab l.tail) (lab l.head)) (lab l.head)) v)))
        (to_either v t))
        (λ f. omega (arith, weight_false (has (class n (joined lab (lab l.tail) (lab l.head)) (lab l.head)) v) f))
        (cases_Bool (has (class n (joined lab (lab l.tail) (lab l.head)) (lab l.head)) v))

    lines : (x : Line) → weight (within (class n lab (lab l.tail)) x) + weight (within (class n lab (lab l.head)) x) ≤ weight (within (class n (joined lab (lab l.tail) (lab l.head)) (lab l.head)) x)
    lines x =
        ⊎_elim
        (λ t.
        let ends = and_parts (has (class n lab (lab l.tail)) x.tail) (has (class n lab (lab l.tail)) x.head) t in
        let now : within (class n (joined lab (lab l.tail) (lab l.head)) (lab l.head)) x ≡ true = and_from (has (class n (joined lab (lab l.tail) (lab l.head)) (lab l.head)) x.tail) (has (class n (joined lab (lab l.tail) (lab l.head)) (lab l.head)) x.head) (from_either x.tail (inl ends.0)) (from_either x.head (inl ends.1)) in
        ⊎_elim
        (λ u.
        let other = and_parts (has (class n lab (lab l.head)) x.tail) (has (class n lab (lab l.head)) x.head) u in
        absurd (ne (sym (in_class n lab (lab l.tail) x.tail ends.0).1 ∙ (in_class n lab (lab l.head) x.tail other.0).1)))
        (λ f. omega (arith, weight_true (within (class n (joined lab (lab l.tail) (lab l.head)) (lab l.head)) x) now, weight_most (within (class n lab (lab l.tail)) x), weight_false (within (class n lab (lab l.head)) x) f))
        (cases_Bool (within (class n lab (lab l.head)) x)))
        (λ f. ⊎_elim
        (λ u.
        let ends = and_parts (has (class n lab (lab l.head)) x.tail) (has (class n lab (lab l.head)) x.head) u in
        let now : within (class n (joined lab (lab l.tail) (lab l.head)) (lab l.head)) x ≡ true = and_from (has (class n (joined lab (lab l.tail) (lab l.head)) (lab l.head)) x.tail) (has (class n (joined lab (lab l.tail) (lab l.head)) (lab l.head)) x.head) (from_either x.tail (inr ends.0)) (from_either x.head (inr ends.1)) in
        omega (arith, weight_true (within (class n (joined lab (lab l.tail) (lab l.head)) (lab l.head)) x) now, weight_false (within (class n lab (lab l.tail)) x) f, weight_most (within (class n lab (lab l.head)) x)))
        (λ g. omega (arith, weight_false (within (class n lab (lab l.tail)) x) f, weight_false (within (class n lab (lab l.head)) x) g))
        (cases_Bool (within (class n lab (lab l.head)) x)))
        (cases_Bool (within (class n lab (lab l.tail)) x))

    tight_joined : size (class n (joined lab (lab l.tail) (lab l.head)) (lab l.head)) ≤ count_by (within (class n (joined lab (lab l.tail) (lab l.head)) (lab l.head))) more + 1
    tight_joined =
        let both : size (class n (joined lab (lab l.tail) (lab l.head)) (lab l.head)) ≤ size (class n lab (lab l.tail)) + size (class n lab (lab l.head)) =
        size-le_sum (class n (joined lab (lab l.tail) (lab l.head)) (lab l.head)) (class n lab (lab l.tail)) (class n lab (lab l.head)) (length_of n (λ v. eqb (lab v) (lab l.tail)) ∙ sym (length_of n (λ v. eqb (joined lab (lab l.tail) (lab l.head) v) (lab l.head)))) (length_of n (λ v. eqb (lab v) (lab l.head)) ∙ sym (length_of n (λ v. eqb (joined lab (lab l.tail) (lab l.head) v) (lab l.head)))) sizes in
        let inside : within (class n (joined lab (lab l.tail) (lab l.head)) (lab l.head)) l ≡ true = and_from (has (class n (joined lab (lab l.tail) (lab l.head)) (lab l.head)) l.tail) (has (class n (joined lab (lab l.tail) (lab l.head)) (lab l.head)) l.head) (from_either l.tail (inl (to_class n lab (lab l.tail) l.tail lt refl))) (from_either l.head (inr (to_class n lab (lab l.head) l.head lh refl))) in
        let old = count-le_both (within (class n lab (lab l.tail))) (within (class n lab (lab l.head))) (within (class n (joined lab (lab l.tail) (lab l.head)) (lab l.head))) lines ls in
        omega (arith, w.tight (lab l.tail), w.tight (lab l.head), adds.counts (within (class n (joined lab (lab l.tail) (lab l.head)) (lab l.head))), weight_true (within (class n (joined lab (lab l.tail) (lab l.head)) (lab l.head)) l) inside)

  pub labels_more : Labels n (joined lab (lab l.tail) (lab l.head)) more
  labels_more = record {
    below = below_after;
    closed = closed_after;
    tight = λ r. ⊎_elim
        (λ e. tight_same r (ap (λ f. class n f r) (joined_none lab (lab l.tail) (lab l.head) e)))
        (λ ne. ⊎_elim
        (λ ra. subst (λ x. size (class n (joined lab (lab l.tail) (lab l.head)) x) ≤ count_by (within (class n (joined lab (lab l.tail) (lab l.head)) x)) more + 1) (sym ra) (let z = tight_lost ne in omega arith))
        (λ na. ⊎_elim
        (λ rb. subst (λ x. size (class n (joined lab (lab l.tail) (lab l.head)) x) ≤ count_by (within (class n (joined lab (lab l.tail) (lab l.head)) x)) more + 1) (sym rb) (tight_joined ne))
        (λ nb. tight_same r (class_other ne r na nb))
        (cases_eq r (lab l.head)))
        (cases_eq r (lab l.tail)))
        (cases_eq (lab l.tail) (lab l.head));
  }
