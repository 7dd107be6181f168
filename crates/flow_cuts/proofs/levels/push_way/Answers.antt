use Rattle.std.proofs.Common.{◌≡◌, length, arith, ap, sym, ◌∙◌}
use Rattle.flow_cuts.specs.Search.{mark_at}
use Rattle.flow_cuts.specs.declared.network.Step.{Step}
use Rattle.flow_cuts.specs.Residual.{from_at, to_at}
use Rattle.flow_cuts.proofs.Pushes.{IsUnderWay, IsUnderWay-pushed}
use Rattle.flow_cuts.proofs.OpenWays.{via_at, via_is, has_last_step, IsOpenWay-rest, SameEnds-pushed, SameEnds-trans, EachFits-pushed, SameSums-pushed, SameSums-trans}
use Rattle.flow_cuts.proofs.levels.push_way.Goals as goal

pub loop-v-smaller : goal.loop-v-smaller
loop-v-smaller c =
    let s : Step = via_at c.args.marks.now c.loop-v.v in
    let last = has_last_step c.loop-v.links c.args.inside.now c.args.marks.now c.args.amount c.loop-v.v s c.loop-v.invariant.way
    (sym c.has.ensures ∙ c.loop-v-test.true) (via_is c.args.marks.now c.loop-v.v (omega arith)) in
    let same = SameEnds-pushed c.loop-v.links s c.args.amount last.link in
    let from : c.step_from-v.result ≡ from_at c.loop-v.links s = c.step_from-v.ensures ∙ ap (λ ls. from_at ls s) c.push_step.ensures ∙ same.from s in
    let level = ap (λ v. (mark_at c.args.marks.now v).level) from in
    omega (arith, last.lower, level)

pub loop-v-preserved : goal.loop-v-preserved
loop-v-preserved c =
    let s : Step = via_at c.args.marks.now c.loop-v.v in
    let last = has_last_step c.loop-v.links c.args.inside.now c.args.marks.now c.args.amount c.loop-v.v s c.loop-v.invariant.way
    (sym c.has.ensures ∙ c.loop-v-test.true) (via_is c.args.marks.now c.loop-v.v (omega arith)) in
    let same = SameEnds-pushed c.loop-v.links s c.args.amount last.link in
    let from : c.step_from-v.result ≡ from_at c.loop-v.links s = c.step_from-v.ensures ∙ ap (λ ls. from_at ls s) c.push_step.ensures ∙ same.from s in
    rw (from, c.push_step.ensures) (record {
      node = omega (arith, c.requires.from s (omega (arith, last.link, c.loop-v.invariant.ends.len)), c.loop-v.invariant.ends.from s);
      way = IsOpenWay-rest c.loop-v.links c.args.inside.now c.args.marks.now c.args.amount c.loop-v.v s last;
      fits = EachFits-pushed c.loop-v.links s c.args.amount last.link last.room c.loop-v.invariant.fits;
      ends = SameEnds-trans _ _ _ c.loop-v.invariant.ends same;
      sums = SameSums-trans _ _ _ c.loop-v.invariant.sums (SameSums-pushed c.loop-v.links s c.args.amount last.link last.room);
      sent = λ outside arcs value flow.
          let before : IsUnderWay (length c.args.inside.now) c.args.inside.now outside arcs c.loop-v.links value c.args.amount c.args.end (to_at c.loop-v.links s) =
          rw last.to (c.loop-v.invariant.sent outside arcs value flow) in
          IsUnderWay-pushed _ c.args.inside.now outside arcs c.loop-v.links value c.args.amount c.args.end s last.link last.room before;
    })
