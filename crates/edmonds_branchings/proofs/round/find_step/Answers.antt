use Rattle.std.proofs.Common.{arith}
use Rattle.edmonds_branchings.proofs.Capacity.{left_within}
use Rattle.edmonds_branchings.proofs.Lovasz.{some_free}
use Rattle.edmonds_branchings.proofs.round.find_step.Goals as goal
use Rattle.graph_core.proofs.PutLaws.{some_missing}

pub unreachable-requires : goal.unreachable-requires
unreachable-requires c =
    let arcs = c.args.arcs.now in
    let T = c.args.covered.now in
    let long = c.requires.round.long in
    let (v, l, out) = some_missing T (omega (arith, c.requires.rest)) in
    some_free arcs T c.requires.round
    (λ j e. c.loop-j.invariant.refused j (c.loop-j.invariant.tried j (let within = left_within arcs j e.left in omega arith) e))
    c.requires.ends c.requires.some v (omega arith) out
