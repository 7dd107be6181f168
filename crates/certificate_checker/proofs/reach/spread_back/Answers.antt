use Rattle.std.proofs.Common.{◌-◌, length, arith}
use Rattle.certificate_checker.proofs.ReachLaws.{grown-same, grown-step}
use Rattle.certificate_checker.proofs.reach.spread_back.Goals as goal

pub loop-k-init : goal.loop-k-init
loop-k-init c = grown-same c.args.pairs.now c.args.side.now

pub loop-k-preserved : goal.loop-k-preserved
loop-k-preserved c =
    let pairs = c.args.pairs.now in
    grown-step pairs c.args.side.now c.loop-k.side c.add_other.new.side (length pairs - 1 - c.loop-k.k) c.add_other.result c.loop-k.invariant (omega (arith, c.loop-k-test.true)) c.add_other.ensures.across c.add_other.ensures.along
