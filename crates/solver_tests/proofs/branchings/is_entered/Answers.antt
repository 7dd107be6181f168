use Rattle.std.proofs.Common.{ℕ, zero, suc, ◌≡◌, ◌+◌, ◌≤◌, List, [], ◌∷◌, take, cond, true, false, refl, sym, ap, ◌∙◌, arith}
use Rattle.std.specs.Prelude.{Bool, slice_index}
use Rattle.std.proofs.lemmas.Bool.{leb-true}
use Rattle.std.proofs.lemmas.List.{take_all}
use Rattle.std.proofs.lemmas.Option.{get_or_from_slice_get}
use Rattle.graph_core.specs.Side.{has, sum_over}
use Rattle.solver_tests.proofs.branchings.is_entered.Goals as goal
use Rattle.solver_tests.proofs.branchings.is_entered.Goals.{then-has, else-has}

sum_more : (w : ℕ → ℕ) (X : List Bool) (v : ℕ) → sum_over (take (suc v) X) w ≡ sum_over (take v X) w + cond (has X v) (w v) 0
sum_more w [] zero = refl
sum_more w [] (suc v) = refl
sum_more w (true ∷ X) zero = omega arith
sum_more w (false ∷ X) zero = refl
sum_more w (x ∷ X) (suc v) = omega (arith, sum_more (λ u. w (suc u)) X v)

within : (b : Bool) (m n : ℕ) → m ≤ n → cond b m 0 ≤ n
within true m n h = h
within false m n h = omega arith

pub loop-v-preserved : goal.loop-v-preserved
loop-v-preserved c =
    let v = c.loop-v.v in
    let X = c.args.side.now in
    let w = slice_index c.args.roots.now in
    let here : c.if-has.sum ≡ cond (has X v) (w v) 0 = elim c.if-has.branch [
      | then-has b ↦ b.sum-is ∙ sym (get_or_from_slice_get c.args.roots.now v b.item.result.now 0 b.item.ensures) ∙ rw (sym c.has.ensures ∙ b.if-has.true) refl
      | else-has b ↦ b.sum-is ∙ rw (sym c.has.ensures ∙ b.if-has.false) refl
    ] in
    let few : w v ≤ c.args.k = c.requires.few v 0 (omega (arith, c.requires.long, c.loop-v-test.true)) in
    let more : sum_over (take (suc v) X) w ≡ sum_over (take v X) w + cond (has X v) (w v) 0 = sum_more w X v in
    let next : v + 1 ≡ suc v = omega arith in
    record {
      sum = rw next (omega (arith, c.loop-v.invariant.sum, here, more));
      small = (let least = within (has X v) (w v) c.args.k few in let old = c.loop-v.invariant.small in omega (arith, here));
    }

pub returns : goal.returns
returns c = λ e.
    let v = c.loop-v.v in
    let X = c.args.side.now in
    let all : take v X ≡ X = take_all v X (omega (arith, c.requires.side, c.loop-v-test.false)) in
    let sum : c.loop-v.sum ≡ sum_over X (slice_index c.args.roots.now) = c.loop-v.invariant.sum ∙ ap (λ Y. sum_over Y (slice_index c.args.roots.now)) all in
    omega (arith, leb-true _ _ e, sum, c.entering.ensures.count)
