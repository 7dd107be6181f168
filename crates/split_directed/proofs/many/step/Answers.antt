use Rattle.std.proofs.Common.{◌∙◌}
use Rattle.split_directed.specs.State.{left_of}
use Rattle.split_directed.specs.Turn.{IsFewest}
use Rattle.split_directed.proofs.Turns.{step_used, step_blocked}
use Rattle.split_directed.proofs.many.step.Goals as goal

pub returns-then-count-most-clause-step : goal.returns-then-count-most-clause-step
returns-then-count-most-clause-step c =
    let me = c.args.state.now in
    let s = left_of me.star.now me.rows in
    let few : IsFewest s.out s.into c.args.u c.args.t c.fewest-most.result = rw (c.deref.ensures.value ∙ c.requires.state.leaving.counts, c.deref-2.ensures.value ∙ c.requires.state.entering.counts) at c.fewest-most.ensures in
    rw (c.take.ensures.way, c.take.ensures.side, c.in_ok-split_off.ensures.rows)
    (step_blocked c.requires.turn c.args.u c.fewest-most.result c.in_ok-count.count c.in_ok-count.way c.most_up_to.new.block c.requires.u c.requires.t c.requires.some few c.in_ok-count.ensures.most c.if-count-most.true)

pub returns-else-count-most-clause-step : goal.returns-else-count-most-clause-step
returns-else-count-most-clause-step c =
    let me = c.args.state.now in
    let s = left_of me.star.now me.rows in
    let few : IsFewest s.out s.into c.args.u c.args.t c.fewest-most.result = rw (c.deref.ensures.value ∙ c.requires.state.leaving.counts, c.deref-2.ensures.value ∙ c.requires.state.entering.counts) at c.fewest-most.ensures in
    rw (c.in_ok-split_off.ensures.rows)
    (step_used c.requires.turn c.args.u c.fewest-most.result c.in_ok-count.count c.in_ok-count.way c.most_up_to.new.block c.requires.u c.requires.t c.requires.some few c.in_ok-count.ensures.most c.if-count-most.false)
