use Rattle.std.proofs.Common.{◌+◌, arith}
use Rattle.problem_defs.specs.declared.cert.Way.TheVariants.{Entering, Leaving}
use Rattle.split_directed.specs.State.{left_of}
use Rattle.split_directed.proofs.Halves.{value_shown}
use Rattle.split_directed.proofs.Stars.{misses}
use Rattle.split_directed.proofs.state.most_up_to.Goals as goal

pub least_over-requires-clause-missed : goal.least_over-requires-clause-missed
least_over-requires-clause-missed c =
    let me = c.args.state.now in
    let s = left_of me.star.now me.rows in
    let shown = c.requires.state.entering in
    let missed = misses c.requires.covered Entering c.args.u c.args.t c.args.b (c.args.k + c.args.b) c.requires.out c.requires.into (omega arith) in
    rw (c.deref.ensures.value, c.requires.state.leaving.counts, c.requires.covered.out_long)
    (λ X x hu ht short. missed X x hu ht (omega (arith, value_shown shown X, short)))

pub least_over-requires-2-clause-missed : goal.least_over-requires-2-clause-missed
least_over-requires-2-clause-missed c =
    let me = c.args.state.now in
    let s = left_of me.star.now me.rows in
    let shown = c.requires.state.leaving in
    let missed = misses c.requires.covered Leaving c.args.u c.args.t c.args.b c.in_ok-entering.entering c.requires.out c.requires.into c.in_ok-entering.ensures.least.stopped in
    rw (c.deref-2.ensures.value, c.requires.state.entering.counts, c.requires.covered.into_long)
    (λ X x hu ht short. missed X x hu ht (omega (arith, value_shown shown X, short)))
