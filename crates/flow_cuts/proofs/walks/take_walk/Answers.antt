use Rattle.std.proofs.Common.{◌≡◌, arith, ap, sym, ◌∙◌}
use Rattle.flow_cuts.specs.Search.{mark_at}
use Rattle.graph_core.specs.Picked.{occurrences}
use Rattle.flow_cuts.specs.declared.network.Step.{Step}
use Rattle.flow_cuts.specs.Residual.{from_at}
use Rattle.flow_cuts.proofs.OpenWays.{via_at, via_is, has_last_step}
use Rattle.flow_cuts.proofs.Streams.{SameEnds-taken}
use Rattle.flow_cuts.proofs.TakenWalks.{IsTaking-step, occurrences-reverse}
use Rattle.flow_cuts.proofs.walks.take_walk.Goals as goal

pub loop-step-smaller : goal.loop-step-smaller
loop-step-smaller c =
    let s : Step = via_at c.args.marks.now c.loop-step.v in
    let last = has_last_step c.loop-step.sent c.args.inside.now c.args.marks.now 1 c.loop-step.v s c.loop-step.invariant.way
    (sym c.has.ensures ∙ c.loop-step-test.true) (via_is c.args.marks.now c.loop-step.v (omega (arith, c.loop-step.invariant.node))) in
    let same = SameEnds-taken c.loop-step.sent s last.link in
    let from : c.step_from-v.result ≡ from_at c.loop-step.sent s = c.step_from-v.ensures ∙ ap (λ ls. from_at ls s) c.take_step.ensures ∙ same.from s in
    let level = ap (λ v. (mark_at c.args.marks.now v).level) from in
    omega (arith, last.lower, level)

pub loop-step-preserved : goal.loop-step-preserved
loop-step-preserved c =
    let s : Step = via_at c.args.marks.now c.loop-step.v in
    let last = has_last_step c.loop-step.sent c.args.inside.now c.args.marks.now 1 c.loop-step.v s c.loop-step.invariant.way
    (sym c.has.ensures ∙ c.loop-step-test.true) (via_is c.args.marks.now c.loop-step.v (omega (arith, c.loop-step.invariant.node))) in
    let same = SameEnds-taken c.loop-step.sent s last.link in
    let from : c.step_from-v.result ≡ from_at c.loop-step.sent s = c.step_from-v.ensures ∙ ap (λ ls. from_at ls s) c.take_step.ensures ∙ same.from s in
    rw (from, c.take_step.ensures, c.in_ok-push.ensures.items)
    (IsTaking-step c.args.inside.now c.args.marks.now c.args.end c.args.sent.now c.loop-step.sent c.loop-step.v c.loop-step.walk.items s c.requires.from c.loop-step.invariant last)

pub returns-clause-once : goal.returns-clause-once
returns-clause-once c = λ j.
    let e = ap (occurrences j) (c.from_vec.ensures ∙ c.reverse.ensures.items) in
    omega (arith, e, occurrences-reverse j c.loop-step.walk.items, c.loop-step.invariant.once j)
