use Rattle.std.proofs.Common.{◌≡◌, ◌-◌, length, subst, arith}
use Rattle.std.specs.Prelude.{slice_index}
use Rattle.graph_core.proofs.WeightLaws.{two_nodes-le-sum}
use Rattle.flow_cuts.specs.LeastMissing.{IsLeastMissing}
use Rattle.flow_cuts.specs.NewNode.{value_with}
use Rattle.star_net.proofs.LeastProper.{IsLeastBelow, node_least, below_next, last_least}
use Rattle.star_net.proofs.value.least_value.Goals as goal

pub returns-then-v-n : goal.returns-then-v-n
returns-then-v-n c =
    let counts = c.args.counts.now in
    let f = value_with c.args.arcs.now counts in
    let least : IsLeastMissing (length counts) f c.hold_only.new.self (length counts) c.args.stop c.least.result c.least.new.into =
    rw (c.in_ok-star.ensures.arcs, c.in_ok-star.ensures.counts) at c.least.ensures.least in
    node_least c.hold_only.ensures.only c.if-v-n.true
    (λ Y i j. omega (arith, two_nodes-le-sum (slice_index counts) Y c.args.v (length counts - 1) (omega arith) i j, c.requires.last c.if-v-n.true)) least

pub loop-u-preserved : goal.loop-u-preserved
loop-u-preserved c =
    let counts = c.args.counts.now in
    let f = value_with c.args.arcs.now counts in
    let inv = c.loop-u.invariant in
    let e = c.least-value.ensures in
    let least : IsLeastMissing (length counts) f c.hold_only.new.self c.loop-u.u c.loop-u.value c.least-value.result c.least-value.new.into = rw (inv.arcs, inv.counts) at e.least in
    record {
      arcs = rw e.arcs inv.arcs;
      counts = rw e.counts inv.counts;
      long = rw e.long inv.long;
      least = below_next (omega arith) c.hold_only.ensures.only inv.least least e.kept;
    }

pub returns : goal.returns
returns c =
    let counts = c.args.counts.now in
    let f = value_with c.args.arcs.now counts in
    let all : c.loop-u.u ≡ c.args.v = omega arith in
    last_least (omega arith) (subst (λ u. IsLeastBelow (length counts) f c.args.v u c.args.stop c.loop-u.value c.loop-u.into) all c.loop-u.invariant.least)
