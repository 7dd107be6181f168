use Rattle.std.proofs.Common.{length, ◌∙◌, arith}
use Rattle.std.specs.Prelude.{slice_index}
use Rattle.graph_core.proofs.WeightLaws.{nodes_all}
use Rattle.split_undirected.proofs.Candidates.{room-le-total}
use Rattle.split_undirected.proofs.LeastLaws.{bounds, misses}
use Rattle.split_undirected.proofs.least.least_over.Goals as goal

pub overflow_mul-stop : goal.overflow_mul-stop
overflow_mul-stop c =
    let counts = c.args.rest.now.counts.items in
    let net = c.requires.star.1 in
    omega (arith, room-le-total (length counts) (slice_index counts) c.args.u c.args.v c.requires.u c.requires.v, nodes_all counts, net.few, c.requires.room)

pub least_over-requires-clause-missed : goal.least_over-requires-clause-missed
least_over-requires-clause-missed c =
    rw (c.in_ok-star.ensures.arcs, c.in_ok-star.ensures.counts, c.deref.ensures.value, c.deref-2.ensures.value, c.deref-3.ensures.value)
    (misses c.requires.star.1 c.args.u c.args.v c.args.b c.requires.u c.requires.v c.requires.room)

pub least_over-requires-clause-bound : goal.least_over-requires-clause-bound
least_over-requires-clause-bound c =
    rw (c.in_ok-star.ensures.arcs, c.in_ok-star.ensures.counts, c.deref.ensures.value, c.deref-2.ensures.value) (bounds c.requires.star.1)

pub returns-clause-least : goal.returns-clause-least
returns-clause-least c =
    rw (c.in_ok-star.ensures.arcs ∙ c.deref.ensures.value, c.in_ok-star.ensures.counts ∙ c.deref-2.ensures.value) at c.least_over.ensures.least
