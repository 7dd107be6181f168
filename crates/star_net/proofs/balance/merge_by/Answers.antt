use Rattle.std.proofs.Common.{length, sym, subst}
use Rattle.cut_fn.specs.Covered.{AreTight}
use Rattle.cut_fn.specs.Stars.{star_of, star_enter, star_leave}
use Rattle.cut_fn.specs.declared.stars.ArcStar.{ArcStar}
use Rattle.problem_defs.specs.declared.cert.Way.{Way}
use Rattle.flow_cuts.specs.StarValues.{value_for}
use Rattle.star_net.proofs.balance.merge_by.Goals as goal

pub merge-requires-clause-tight : goal.merge-requires-clause-tight
merge-requires-clause-tight c =
    subst (λ (s : ArcStar). AreTight (length s.graph.names) c.args.k (star_enter (star_of s)) c.args.family.now) (sym c.new.ensures)
    (subst (λ (w : Way). AreTight (length c.args.star.now.graph.names) c.args.k (value_for w (star_of c.args.star.now)) c.args.family.now) c.in-Entering.is c.requires.tight)

pub merge-requires-in-Leaving-clause-tight : goal.merge-requires-in-Leaving-clause-tight
merge-requires-in-Leaving-clause-tight c =
    subst (λ (s : ArcStar). AreTight (length s.graph.names) c.args.k (star_leave (star_of s)) c.args.family.now) (sym c.new-in-Leaving.ensures)
    (subst (λ (w : Way). AreTight (length c.args.star.now.graph.names) c.args.k (value_for w (star_of c.args.star.now)) c.args.family.now) c.in-Leaving.is c.requires.tight)

pub returns-in-Entering-clause-tight : goal.returns-in-Entering-clause-tight
returns-in-Entering-clause-tight c =
    subst (λ (w : Way). AreTight (length c.args.star.now.graph.names) c.args.k (value_for w (star_of c.args.star.now)) c.merge.new.family) (sym c.in-Entering.is)
    (subst (λ (s : ArcStar). AreTight (length s.graph.names) c.args.k (star_enter (star_of s)) c.merge.new.family) c.new.ensures c.merge.ensures.tight)

pub returns-in-Leaving-clause-tight : goal.returns-in-Leaving-clause-tight
returns-in-Leaving-clause-tight c =
    subst (λ (w : Way). AreTight (length c.args.star.now.graph.names) c.args.k (value_for w (star_of c.args.star.now)) c.merge-in-Leaving.new.family) (sym c.in-Leaving.is)
    (subst (λ (s : ArcStar). AreTight (length s.graph.names) c.args.k (star_leave (star_of s)) c.merge-in-Leaving.new.family) c.new-in-Leaving.ensures c.merge-in-Leaving.ensures.tight)
