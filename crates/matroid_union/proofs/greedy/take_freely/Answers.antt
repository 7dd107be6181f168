use Rattle.std.proofs.Common.{◌≢◌, ◌<◌, Some, None, length, sym, ap, ◌∙◌, subst, arith}
use Rattle.std.proofs.lemmas.List.{get_or-set_other}
use Rattle.matroid_union.specs.Growing.{AreFilled}
use Rattle.matroid_union.specs.Parts.{own_of, part, moved, IsPacking}
use Rattle.matroid_union.proofs.Chain.{pack_take, own_set}
use Rattle.matroid_union.proofs.Rows.{pack_none}
use Rattle.matroid_union.proofs.Filled.{are_kept, filled_more}
use Rattle.matroid_union.proofs.KeptSets.{whole_more}
use Rattle.matroid_union.proofs.greedy.take_freely.Goals as goal
use Rattle.matroid_union.proofs.greedy.take_freely.Goals.{in-Some, in_default}

pub loop-i-init : goal.loop-i-init
loop-i-init g c = record {
  first = omega arith;
  packing = pack_none (g.M.Matroid.count c.args.matroid.now) (g.M.Matroid.free c.args.matroid.now) (g.met.M.Matroid.laws c.args.matroid.now) c.args.k (own_of c.args.owner.now) c.requires.none;
  filled = c.requires.whole;
  ahead = λ e l. c.requires.none e;
}

pub part_for-found-requires-clause-kept : goal.part_for-found-requires-clause-kept
part_for-found-requires-clause-kept g c =
    are_kept (g.M.Matroid.keeps c.args.matroid.now) g.M.Matroid.members (g.M.Matroid.count c.args.matroid.now) c.args.k (part (own_of c.loop-i.owner)) c.loop-i.whole c.loop-i.invariant.filled

pub add-requires-clause-kept : goal.add-requires-clause-kept
add-requires-clause-kept g c = (c.loop-i.invariant.filled.each c.in-Some.number c.item_mut.result.now c.item_mut.ensures.value).kept

pub loop-i-preserved : goal.loop-i-preserved
loop-i-preserved g c =
    let below : c.loop-i.i < g.M.Matroid.count c.args.matroid.now = omega arith in
    let inside : c.loop-i.i < length c.loop-i.owner = omega arith in
    elim c.match-found.branch [
      | in-Some w ↦ (
          let own_is = own_set c.loop-i.owner c.loop-i.i w.in-Some.number inside ∙ ap own_of (sym w.owner-is) in
          let here = c.loop-i.invariant.filled.each w.in-Some.number w.item_mut.result.now w.item_mut.ensures.value in
          let joins = subst (g.M.Matroid.free c.args.matroid.now) (filled_more (g.M.Matroid.keeps c.args.matroid.now) g.M.Matroid.members (g.M.Matroid.count c.args.matroid.now) (part (own_of c.loop-i.owner) w.in-Some.number) c.loop-i.i w.item_mut.result.now below here) (w.in-Some.ensures.joins w.item_mut.result.now w.item_mut.ensures.value) in
          let number_below : w.in-Some.number < c.args.k = w.in-Some.ensures.below in
          record {
            first = (let f = w.first-is in omega arith);
            packing = subst (λ o. IsPacking (g.M.Matroid.count c.args.matroid.now) (g.M.Matroid.free c.args.matroid.now) c.args.k o) own_is
                (pack_take (g.M.Matroid.count c.args.matroid.now) (g.M.Matroid.free c.args.matroid.now) (g.met.M.Matroid.laws c.args.matroid.now) c.args.k (own_of c.loop-i.owner) c.loop-i.i w.in-Some.number c.loop-i.invariant.packing number_below joins);
            filled = subst (λ o. AreFilled (g.M.Matroid.keeps c.args.matroid.now) g.M.Matroid.members (g.M.Matroid.count c.args.matroid.now) c.args.k (part o) c.match-found.whole) own_is
                (subst (λ s. AreFilled (g.M.Matroid.keeps c.args.matroid.now) g.M.Matroid.members (g.M.Matroid.count c.args.matroid.now) c.args.k (part (moved (own_of c.loop-i.owner) c.loop-i.i w.in-Some.number)) s) (sym w.whole-is)
                (whole_more (g.M.Matroid.count c.args.matroid.now) (g.M.Matroid.free c.args.matroid.now) (g.met.M.Matroid.laws c.args.matroid.now) (g.M.Matroid.keeps c.args.matroid.now) g.M.Matroid.members c.args.k (own_of c.loop-i.owner) c.loop-i.i w.in-Some.number c.loop-i.whole w.item_mut.result.now w.add.new.set below (c.loop-i.invariant.ahead c.loop-i.i (omega arith)) c.loop-i.invariant.filled w.item_mut.ensures.value w.add.ensures.kept w.add.ensures.added));
            ahead = λ e l.
                let ne : e ≢ c.loop-i.i = omega arith in
                ap (λ o. own_of o e) w.owner-is ∙ get_or-set_other c.loop-i.owner c.loop-i.i e (Some w.in-Some.number) None ne ∙ c.loop-i.invariant.ahead e (omega arith);
          })
      | in_default w ↦ record {
        first = (let f = w.first-is in let o = c.loop-i.invariant.first in omega arith);
        packing = subst (λ o. IsPacking (g.M.Matroid.count c.args.matroid.now) (g.M.Matroid.free c.args.matroid.now) c.args.k (own_of o)) (sym w.owner-is) c.loop-i.invariant.packing;
        filled = subst (λ o. AreFilled (g.M.Matroid.keeps c.args.matroid.now) g.M.Matroid.members (g.M.Matroid.count c.args.matroid.now) c.args.k (part (own_of o)) c.match-found.whole) (sym w.owner-is)
            (subst (AreFilled (g.M.Matroid.keeps c.args.matroid.now) g.M.Matroid.members (g.M.Matroid.count c.args.matroid.now) c.args.k (part (own_of c.loop-i.owner))) (sym w.whole-is) c.loop-i.invariant.filled);
        ahead = λ e l. ap (λ o. own_of o e) w.owner-is ∙ c.loop-i.invariant.ahead e (omega arith);
      }
    ]
