-- Classes as trees of parents.
use Rattle.std.proofs.Common.{ℕ, ◌≡◌, ◌≢◌, ◌<◌, ◌⊎◌, inl, inr, true, ◌&&◌, List, [], ◌∷◌, length, get_or, set, count_by, refl, sym, ap, ◌∙◌, arith, ⊎_elim, subst}
use Rattle.std.specs.Prelude.{nat_lt, All}
use Rattle.std.proofs.lemmas.Bool.{cases_eq, and_from, not_from_true, lt-ltb}
use Rattle.std.proofs.lemmas.List.Elements.{All-head, All-tail}
use Rattle.std.proofs.lemmas.List.{get_or-set_same, get_or-set_other}
use Rattle.graph_core.specs.declared.graph.Line.{Line}
use Rattle.graph_core.specs.Graph.{Fits}
use Rattle.graph_core.specs.Labels.{joined, Adds}
use Rattle.graphic_matroid.specs.Unfit.{unfit}
use Rattle.graph_core.proofs.SizeLaws.{weight_false, count-cons}
use Rattle.graphic_matroid.specs.Roots.{AreRoots, AreClasses}
use Rattle.graph_core.proofs.JoinLaws.{joined_at, joined_off, joined_same, labels_more}
use Rattle.graphic_matroid.specs.ForestLaws.{finest_none, finest_more}
use Rattle.graph_core.proofs.LabelLaws.{labels_none}

-- a write, read back
at_set : (xs : List ℕ) (i v k : ℕ) → i < length xs → k ≡ i → get_or (set xs i v) k 0 ≡ v
at_set xs i v k l e = ap (λ x. get_or (set xs i v) x 0) e ∙ get_or-set_same xs i v 0 l

-- each node alone
pub classes_none : (n : ℕ) (parents : List ℕ) → ((v : ℕ) → v < n → get_or parents v 0 ≡ v) → AreClasses n parents []
classes_none n parents h = record { label = λ v. v; is = labels_none n; finest = finest_none; along = h; apart = λ u v lu lv ru rv e. e }

module _ (n : ℕ) (parents : List ℕ) (ls : List Line) (l : Line) (more : List Line) (long : length parents ≡ n) (w : AreClasses n parents ls) (adds : Adds ls l more) (lt : l.tail < n) (lh : l.head < n) where
  abbrev new : ℕ → ℕ
  new = joined w.label (w.label l.tail) (w.label l.head)

  module _ (a b : ℕ) (la : a < n) (lb : b < n) (ra : get_or parents a 0 ≡ a) (rb : get_or parents b 0 ≡ b) (at : w.label a ≡ w.label l.tail) (bt : w.label b ≡ w.label l.head) where
    new_a : joined w.label (w.label l.tail) (w.label l.head) a ≡ w.label l.head
    new_a = joined_at w.label (w.label l.tail) (w.label l.head) a at

    new_b : joined w.label (w.label l.tail) (w.label l.head) b ≡ w.label l.head
    new_b = ⊎_elim
        (λ e. joined_at w.label (w.label l.tail) (w.label l.head) b e)
        (λ ne. joined_off w.label (w.label l.tail) (w.label l.head) b ne ∙ bt)
        (cases_eq (w.label b) (w.label l.tail))

    -- two old roots with one new label are the same, or the two that were joined
    module _ (u v : ℕ) (lu : u < n) (lv : v < n) (ru : get_or parents u 0 ≡ u) (rv : get_or parents v 0 ≡ v) (e : joined w.label (w.label l.tail) (w.label l.head) u ≡ joined w.label (w.label l.tail) (w.label l.head) v) where
      same_or_joined : (u ≡ v) ⊎ (((u ≡ a) × (v ≡ b)) ⊎ ((u ≡ b) × (v ≡ a)))
      same_or_joined =
          ⊎_elim
          (λ ut.
          let ua : u ≡ a = w.apart u a lu la ru ra (ut ∙ sym at) in
          ⊎_elim
          (λ vt. inl (ua ∙ sym (w.apart v a lv la rv ra (vt ∙ sym at))))
          (λ nv. inr (inl (ua, w.apart v b lv lb rv rb (sym (joined_off w.label (w.label l.tail) (w.label l.head) v nv) ∙ sym e ∙ joined_at w.label (w.label l.tail) (w.label l.head) u ut ∙ sym bt))))
          (cases_eq (w.label v) (w.label l.tail)))
          (λ nu. ⊎_elim
          (λ vt. inr (inr (w.apart u b lu lb ru rb (sym (joined_off w.label (w.label l.tail) (w.label l.head) u nu) ∙ e ∙ joined_at w.label (w.label l.tail) (w.label l.head) v vt ∙ sym bt), w.apart v a lv la rv ra (vt ∙ sym at))))
          (λ nv. inl (w.apart u v lu lv ru rv (sym (joined_off w.label (w.label l.tail) (w.label l.head) u nu) ∙ e ∙ joined_off w.label (w.label l.tail) (w.label l.head) v nv)))
          (cases_eq (w.label v) (w.label l.tail)))
          (cases_eq (w.label u) (w.label l.tail))

    module _ (c d : ℕ) (ends : ((c ≡ a) × (d ≡ b)) ⊎ ((c ≡ b) × (d ≡ a))) (ne : a ≢ b) where
      lc : c < n
      lc = ⊎_elim (λ x. subst (λ y. y < n) (sym x.0) la) (λ x. subst (λ y. y < n) (sym x.0) lb) ends

      one_label : joined w.label (w.label l.tail) (w.label l.head) d ≡ joined w.label (w.label l.tail) (w.label l.head) c
      one_label = ⊎_elim
          (λ x. ap (joined w.label (w.label l.tail) (w.label l.head)) x.1 ∙ new_b ∙ sym new_a ∙ ap (joined w.label (w.label l.tail) (w.label l.head)) (sym x.0))
          (λ x. ap (joined w.label (w.label l.tail) (w.label l.head)) x.1 ∙ new_a ∙ sym new_b ∙ ap (joined w.label (w.label l.tail) (w.label l.head)) (sym x.0))
          ends

      c_d : c ≢ d
      c_d e = ⊎_elim (λ x. ne (sym x.0 ∙ e ∙ x.1)) (λ x. ne (sym x.1 ∙ sym e ∙ x.0)) ends

      short : c < length parents
      short = rw long lc

      not_c : (v : ℕ) → get_or (set parents c d) v 0 ≡ v → v ≢ c
      not_c v root e = c_d (sym e ∙ sym root ∙ at_set parents c d v short e)

      old_root : (v : ℕ) → get_or (set parents c d) v 0 ≡ v → get_or parents v 0 ≡ v
      old_root v root = sym (get_or-set_other parents c v d 0 (not_c v root)) ∙ root

      pub classes_joined : AreClasses n (set parents c d) more
      classes_joined = record {
        label = joined w.label (w.label l.tail) (w.label l.head);
        is = labels_more n w.label ls l more w.is adds lt lh;
        finest = finest_more w.label ls l more w.finest adds;
        along = λ v lv. ⊎_elim
            (λ e. ap (joined w.label (w.label l.tail) (w.label l.head)) (at_set parents c d v short e) ∙ one_label ∙ ap (joined w.label (w.label l.tail) (w.label l.head)) (sym e))
            (λ no. ap (joined w.label (w.label l.tail) (w.label l.head)) (get_or-set_other parents c v d 0 no) ∙ joined_same w.label (w.label l.tail) (w.label l.head) (get_or parents v 0) v (w.along v lv))
            (cases_eq v c);
        apart = λ u v lu lv ru rv e. ⊎_elim
            (λ same. same)
            (λ two. absurd (⊎_elim
            (λ x. ⊎_elim (λ y. not_c u ru (x.0 ∙ sym y.0)) (λ y. not_c v rv (x.1 ∙ sym y.0)) ends)
            (λ x. ⊎_elim (λ y. not_c v rv (x.1 ∙ sym y.0)) (λ y. not_c u ru (x.0 ∙ sym y.0)) ends)
            two))
            (same_or_joined u v lu lv (old_root u ru) (old_root v rv) e);
      }

-- each node its own parent
pub roots_none : (n : ℕ) (parents ranks : List ℕ) → length parents ≡ n → length ranks ≡ n → ((v : ℕ) → v < n → get_or parents v 0 ≡ v) → AreRoots n parents ranks
roots_none n parents ranks lp lr h = record {
  parents_long = lp;
  ranks_long = lr;
  inside = λ v l. rw (h v l) l;
  ranked = λ v l moves. absurd (moves (h v l));
}

-- the lines of a graph have their ends among its nodes
pub count_by-unfit : (n : ℕ) (ls : List Line) → All (Fits n) ls → count_by (unfit n) ls ≡ 0
count_by-unfit n [] h = refl
count_by-unfit n (l ∷ ls) h =
    let fits = All-head (Fits n) l ls h in
    let both : (nat_lt l.tail n && nat_lt l.head n) ≡ true = and_from (nat_lt l.tail n) (nat_lt l.head n) (lt-ltb l.tail n fits.tail) (lt-ltb l.head n fits.head) in
    omega (arith, count-cons (unfit n) l ls, weight_false (unfit n l) (not_from_true (nat_lt l.tail n && nat_lt l.head n) both), count_by-unfit n ls (All-tail (Fits n) l ls h))
