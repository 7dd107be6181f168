use Rattle.std.proofs.Common.{arith}
use Rattle.dicut_lattice.proofs.Rows.{rows-on, on_more, reached}
use Rattle.dicut_lattice.proofs.reach.Reach.of.Goals as goal

pub loop-k-preserved : goal.loop-k-preserved
loop-k-preserved c = record { rows = rows-on c.lead_on.ensures c.loop-k.invariant.rows; on = on_more c.lead_on.ensures c.loop-k.invariant.on }

pub invariant_of-result : goal.invariant_of-result
invariant_of-result c =
    let i = c.loop-k.invariant in
    (i.rows.square, reached c.args.graph.now c.loop-k.rows c.known.ensures.makes.ends i.rows (λ v x w l. i.on v x w (let past = c.loop-k-test.false in omega arith)))
