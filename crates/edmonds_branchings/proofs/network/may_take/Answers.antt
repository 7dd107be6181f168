use Rattle.std.proofs.Common.{◌≡◌, ◌+◌, ◌<◌, length, ap, ◌∙◌, arith}
use Rattle.std.proofs.lemmas.Bool.{eqb-true, eqb-false}
use Rattle.std.proofs.lemmas.List.{length-replicate}
use Rattle.flow_cuts.specs.Cuts.{IsLeastCapacity}
use Rattle.graph_core.specs.Side.{IsOnly}
use Rattle.edmonds_branchings.specs.Network.{cap_at}
use Rattle.edmonds_branchings.proofs.MayTake.{free_run, blocked_run}
use Rattle.edmonds_branchings.proofs.network.may_take.Goals as goal

pub returns-clause-free : goal.returns-clause-free
returns-clause-free c = λ e.
    let a : IsOnly c.hold_only.new.self (cap_at c.args.arcs.now c.args.j).tail = c.hold_only.ensures.only in
    let b : IsOnly c.hold_only-2.new.self (cap_at c.args.arcs.now c.args.j).head = c.hold_only-2.ensures.only in
    let long : length c.hold_only-2.new.self ≡ c.args.n + 1 = c.hold_only-2.ensures.long ∙ ap length c.in_ok-outside.ensures ∙ length-replicate _ _ in
    let least : IsLeastCapacity (c.args.n + 1) c.hold_only.new.self c.put.new.self c.args.arcs.now c.args.k c.run.result = rw c.in_ok-flow.ensures at c.run.ensures.least in
    free_run c.args.n c.args.k c.args.arcs.now c.args.j c.run.result c.hold_only.new.self c.hold_only-2.new.self c.put.new.self a b c.put.ensures long least (eqb-true _ _ e)

pub returns-clause-blocked : goal.returns-clause-blocked
returns-clause-blocked c = λ e.
    let a : IsOnly c.hold_only.new.self (cap_at c.args.arcs.now c.args.j).tail = c.hold_only.ensures.only in
    let b : IsOnly c.hold_only-2.new.self (cap_at c.args.arcs.now c.args.j).head = c.hold_only-2.ensures.only in
    let long : length c.hold_only-2.new.self ≡ c.args.n + 1 = c.hold_only-2.ensures.long ∙ ap length c.in_ok-outside.ensures ∙ length-replicate _ _ in
    let least : IsLeastCapacity (c.args.n + 1) c.hold_only.new.self c.put.new.self c.args.arcs.now c.args.k c.run.result = rw c.in_ok-flow.ensures at c.run.ensures.least in
    let short : c.run.result < c.args.k = (let ne = eqb-false _ _ e in omega (arith, least.stopped, ne)) in
    blocked_run c.args.n c.args.k c.args.arcs.now c.args.j c.run.result c.hold_only.new.self c.hold_only-2.new.self c.put.new.self a b c.put.ensures long least short
