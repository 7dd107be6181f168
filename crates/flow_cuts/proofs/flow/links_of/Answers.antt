use Rattle.std.proofs.Common.{arith}
use Rattle.std.proofs.lemmas.Grind.{common_steps}
use Rattle.flow_cuts.proofs.LinkLaws.{EachFits-push}
use Rattle.flow_cuts.proofs.flow.links_of.Goals as goal

pub loop-arc-preserved : goal.loop-arc-preserved
loop-arc-preserved c = record {
  links = grind (arith, common_steps);
  fits = rw c.in_ok-push.ensures.items (EachFits-push _ _ c.loop-arc.invariant.fits c.link-link.ensures.fits);
}
