-- The steps of joining classes by lines.
use Rattle.std.proofs.Common.{ℕ, ◌≡◌, ◌≢◌, ◌+◌, ◌<◌, ◌⊎◌, inl, inr, Bool, false, List, length, set, take, sym, refl, ap, ◌∙◌, subst, ⊎_elim}
use Rattle.graph_core.specs.Side.{has}
use Rattle.graph_core.specs.Trees.{IsAcyclic}
use Rattle.graph_core.specs.declared.graph.Line.{Line}
use Rattle.graphic_matroid.specs.Chosen.{chosen}
use Rattle.graph_core.specs.Labels.{joined, splits, Labels, Adds, Finest}
use Rattle.graphic_matroid.specs.Roots.{AreClasses, IsRootOf}
use Rattle.graph_core.proofs.JoinLaws.{labels_more, joined_none}
use Rattle.graph_core.proofs.LabelLaws.{circuit, forest_more}
use Rattle.graphic_matroid.specs.ForestLaws.{finest_more, take_without}
use Rattle.graph_core.proofs.LabelLaws.{labels_same, forest_same}
use Rattle.graphic_matroid.proofs.RootLaws.{classes_joined}

-- the roots a and b of the two ends of a line
module _ (parents : List ℕ) (l : Line) (lt : l.tail < length parents) (lh : l.head < length parents)
    (a b : ℕ) (tail : IsRootOf parents l.tail a) (head : IsRootOf parents l.head b)
    (ls more : List Line) (w : AreClasses (length parents) parents ls) (adds : Adds ls l more) where
  one_label : a ≡ b → w.label l.tail ≡ w.label l.head
  one_label e = sym (tail.same w.label w.along) ∙ ap w.label e ∙ head.same w.label w.along

  two_labels : a ≢ b → w.label l.tail ≢ w.label l.head
  two_labels ne e = ne (w.apart a b tail.below head.below tail.root head.root (tail.same w.label w.along ∙ e ∙ sym (head.same w.label w.along)))

  -- a line within a class joins nothing
  pub classes_kept : a ≡ b → AreClasses (length parents) parents more
  classes_kept e =
      let same : joined w.label (w.label l.tail) (w.label l.head) ≡ w.label = joined_none w.label (w.label l.tail) (w.label l.head) (one_label e) in
      record {
        label = w.label;
        is = subst (λ lab. Labels (length parents) lab more) same (labels_more (length parents) w.label ls l more w.is adds lt lh);
        finest = subst (λ lab. Finest lab more) same (finest_more w.label ls l more w.finest adds);
        along = w.along;
        apart = w.apart;
      }

  pub no_forest : a ≡ b → IsAcyclic (length parents) more → ⊥
  no_forest e = circuit (length parents) w.label ls l more w.is adds lt lh (one_label e)

  pub classes_after : a ≢ b → (parents' : List ℕ) → (parents' ≡ set parents a b) ⊎ (parents' ≡ set parents b a) → AreClasses (length parents) parents' more
  classes_after ne parents' linked =
      let after : (c d : ℕ) → ((c ≡ a) × (d ≡ b)) ⊎ ((c ≡ b) × (d ≡ a)) → AreClasses (length parents) (set parents c d) more =
      λ c d which. classes_joined (length parents) parents ls l more refl w adds lt lh a b tail.below head.below tail.root head.root (tail.same w.label w.along) (head.same w.label w.along) c d which ne in
      ⊎_elim
      (λ e. subst (λ p. AreClasses (length parents) p more) (sym e) (after a b (inl (refl, refl))))
      (λ e. subst (λ p. AreClasses (length parents) p more) (sym e) (after b a (inr (refl, refl))))
      linked

  pub forest_after : a ≢ b → IsAcyclic (length parents) ls → IsAcyclic (length parents) more
  forest_after ne forest = forest_more (length parents) w.label ls w.is.closed forest l more adds (two_labels ne)

-- a line that isn't in the set changes nothing
module _ (n : ℕ) (A : List Bool) (ls : List Line) (j : ℕ) (d : Line) (la : j < length A) (ll : j < length ls) (out : has A j ≡ false) where
  pub classes_without : (parents : List ℕ) → AreClasses n parents (chosen (take j A) (take j ls)) → AreClasses n parents (chosen (take (j + 1) A) (take (j + 1) ls))
  classes_without parents w = record {
    label = w.label;
    is = labels_same n (chosen (take j A) (take j ls)) (chosen (take (j + 1) A) (take (j + 1) ls)) (take_without n A ls j la ll d out) w.label w.is;
    finest = record { coarser = λ f closed. w.finest.coarser f (sym (take_without n A ls j la ll d out (splits f)) ∙ closed) };
    along = w.along;
    apart = w.apart;
  }

  pub forest_without : IsAcyclic n (chosen (take j A) (take j ls)) → IsAcyclic n (chosen (take (j + 1) A) (take (j + 1) ls))
  forest_without = forest_same n (chosen (take j A) (take j ls)) (chosen (take (j + 1) A) (take (j + 1) ls)) (take_without n A ls j la ll d out)
