use Rattle.std.proofs.Common.{◌≡◌, ◌≤◌, length, sym, ap, ◌∙◌, arith}
use Rattle.problem_defs.specs.declared.cert.Way.TheVariants.{Entering, Leaving}
use Rattle.split_directed.specs.Rows.{split}
use Rattle.cut_fn.specs.Stars.{star_of}
use Rattle.split_directed.specs.State.{left_of}
use Rattle.split_directed.proofs.Halves.{shows_split}
use Rattle.split_directed.proofs.Rows.{after-push}
use Rattle.split_directed.proofs.state.Splitting.split_off.Goals as goal

pub returns-clause-state : goal.returns-clause-state
returns-clause-state c =
    let me = c.args.self.now in
    let n = length me.star.now.graph.names in
    let s = left_of me.star.now me.rows in
    let next : left_of me.star.now c.push.new.self ≡ split s c.args.u c.args.t c.args.c =
    ap (left_of me.star.now) c.in_ok-push.ensures.ok ∙ after-push (star_of me.star.now) me.rows c.args.u c.args.t c.args.c in
    let into : length s.into ≡ n = sym (ap length c.requires.state.entering.counts) ∙ c.requires.state.entering.half.long in
    let some : 1 ≤ c.args.c = omega arith in
    rw next (record {
      entering = shows_split Entering s me.enter c.split.new.self c.args.u c.args.t c.args.c c.requires.state.entering into c.requires.u c.requires.t some c.requires.out c.requires.into c.in_ok-split.ensures.arcs c.in_ok-split.ensures.counts;
      leaving = shows_split Leaving s me.leave c.split-2.new.self c.args.u c.args.t c.args.c c.requires.state.leaving into c.requires.u c.requires.t some c.requires.out c.requires.into c.in_ok-split-2.ensures.arcs c.in_ok-split-2.ensures.counts;
    })
