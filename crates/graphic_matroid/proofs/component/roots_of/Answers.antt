use Rattle.std.proofs.Common.{◌≡◌, ◌+◌, [], ◌∷◌, ◌++◌, length, get_or, sym, ap, ◌∙◌, subst, arith, ⊎_elim}
use Rattle.std.proofs.lemmas.Bool.{cases_eq}
use Rattle.std.proofs.lemmas.List.{length_push, get_or_push, get_or_append_left}
use Rattle.graphic_matroid.specs.Roots.{IsRootOf}
use Rattle.graphic_matroid.proofs.component.roots_of.Goals as goal

pub loop-v-preserved : goal.loop-v-preserved
loop-v-preserved c =
    let parents = c.args.classes.now.parents.items in
    let xs = c.loop-v.roots.items in
    let r = c.root-root.result in
    let long = c.loop-v.invariant.long in
    let made : c.push.new.self.items ≡ xs ++ r ∷ [] = c.in_ok-push.ensures.items in
    record {
      long = ap length made ∙ length_push xs r ∙ ap (λ k. k + 1) long;
      each = λ u l. subst (λ ys. IsRootOf parents u (get_or ys u 0)) (sym made)
          (⊎_elim
          (λ e. subst (IsRootOf parents u) (sym (get_or_push xs r 0 u (long ∙ sym e)))
          (subst (λ k. IsRootOf parents k r) (sym e) (record { below = c.root-root.ensures.below; root = c.root-root.ensures.root; same = c.root-root.ensures.same })))
          (λ ne. subst (IsRootOf parents u) (sym (get_or_append_left xs (r ∷ []) 0 u (omega arith))) (c.loop-v.invariant.each u (omega arith)))
          (cases_eq u c.loop-v.v));
    }
