use Rattle.std.proofs.Common.{ap, ◌∙◌, map}
use Rattle.problem_defs.specs.declared.cert.Way.TheVariants.{Entering, Leaving}
use Rattle.flow_cuts.specs.NewNode.{arc_by}
use Rattle.cut_fn.specs.Stars.{star_of}
use Rattle.split_directed.proofs.Halves.{shows_begin}
use Rattle.split_directed.proofs.state.Splitting.begin.Goals as goal

pub returns-clause-state : goal.returns-clause-state
returns-clause-state c =
    let star = c.args.star.now in
    let s = star_of star in
    let g = c.known.ensures.makes in
    record {
      entering = shows_begin Entering s c.in_ok-enter.enter g.nodes g.ends star.into_long star.into_few c.requires
          (c.in_ok-enter.ensures.arcs ∙ ap (map (arc_by Entering)) c.lines.ensures) c.in_ok-enter.ensures.counts;
      leaving = shows_begin Leaving s c.in_ok-leave.leave g.nodes g.ends star.out_long star.out_few c.requires
          (c.in_ok-leave.ensures.arcs ∙ ap (map (arc_by Leaving)) c.lines-2.ensures) c.in_ok-leave.ensures.counts;
    }
