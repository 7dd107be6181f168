use Rattle.std.proofs.Common.{length, ◌∙◌}
use Rattle.flow_cuts.proofs.LeastValues.{bounds_none}
use Rattle.split_directed.proofs.least.least_over.Goals as goal

pub least_over-requires-clause-missed : goal.least_over-requires-clause-missed
least_over-requires-clause-missed c =
    rw (c.in_ok-star.ensures.arcs ∙ c.as_slice.ensures.value, c.in_ok-star.ensures.counts ∙ c.as_slice-2.ensures.value, c.requires.half.long) c.requires.missed

pub least_over-requires-clause-bound : goal.least_over-requires-clause-bound
least_over-requires-clause-bound c = bounds_none c.in_ok-star.star.arcs.now c.in_ok-star.star.counts.now (λ i. length c.in_ok-star.star.counts.now)

pub returns-clause-least : goal.returns-clause-least
returns-clause-least c =
    rw (c.in_ok-star.ensures.arcs ∙ c.as_slice.ensures.value, c.in_ok-star.ensures.counts ∙ c.as_slice-2.ensures.value, c.requires.half.long) at c.least_over.ensures.least
