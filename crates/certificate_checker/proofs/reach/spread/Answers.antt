use Rattle.std.proofs.Common.{◌≡◌, subst}
use Rattle.std.proofs.lemmas.List.{take_all}
use Rattle.std.specs.Bool.{OnFalse}
use Rattle.graph_core.specs.Side.{has}
use Rattle.graph_core.specs.Pairs.{pair_at}
use Rattle.certificate_checker.specs.TreeSides.{AddsOther, AreUncrossed}
use Rattle.certificate_checker.proofs.ReachLaws.{spread-first, spread-across, spread-along}
use Rattle.certificate_checker.proofs.reach.spread.Goals as goal
use Rattle.certificate_checker.proofs.reach.spread.Goals.{then-add_other, else-add_other}

pub loop-pair-init : goal.loop-pair-init
loop-pair-init c = spread-first c.args.pairs.now c.args.side.now

pub loop-pair-preserved : goal.loop-pair-preserved
loop-pair-preserved c =
    let pairs = c.args.pairs.now in
    let i = c.loop-pair.pair-index in
    elim c.if-add_other.branch [
      | then-add_other w ↦
          let a : AddsOther (pair_at pairs i).0 (pair_at pairs i).1 c.loop-pair.side c.add_other.new.side = rw w.if-add_other.true at c.add_other.ensures.across in
          rw w.added-is (spread-across pairs c.args.side.now c.loop-pair.side c.add_other.new.side i c.loop-pair.added c.loop-pair.invariant c.loop-pair-test.true a)
      | else-add_other w ↦
          let a : (c.add_other.new.side ≡ c.loop-pair.side) × (has c.loop-pair.side (pair_at pairs i).0 ≡ has c.loop-pair.side (pair_at pairs i).1) = rw w.if-add_other.false at c.add_other.ensures.along in
          rw w.added-is (spread-along pairs c.args.side.now c.loop-pair.side c.add_other.new.side i c.loop-pair.added c.loop-pair.invariant c.loop-pair-test.true a.0 a.1)
    ]

pub returns : goal.returns
returns c =
    let s = c.loop-pair.invariant in
    record {
      grown = s.grown;
      more = s.more;
      done = subst (λ pairs. OnFalse c.loop-pair.added ((c.loop-pair.side ≡ c.args.side.now) × AreUncrossed c.loop-pair.side pairs)) (take_all c.loop-pair.pair-index c.args.pairs.now c.loop-pair-test.false) s.done;
    }
