use Rattle.std.proofs.Common.{false, ◌++◌}
use Rattle.certificate_checker.proofs.ReachLaws.{grown-same, grown-on, grown-both, grow-done}
use Rattle.certificate_checker.proofs.reach.grow.Goals as goal

pub loop-more-init : goal.loop-more-init
loop-more-init c =
    let a = c.args.before.now in
    let b = c.args.behind.now in
    let Y = c.spread_back.new.side in
    record { grown = grown-both a b c.args.side.now Y Y c.spread_back.ensures (grown-same b Y); done = tt }

pub loop-more-preserved-then-first : goal.loop-more-preserved-then-first
loop-more-preserved-then-first c =
    let a = c.args.before.now in
    let b = c.args.behind.now in
    record {
      grown = grown-on (a ++ b) c.args.side.now c.loop-more.side c.spread-second.new.side c.loop-more.invariant.grown
          (grown-both a b c.loop-more.side c.spread-first.new.side c.spread-second.new.side c.spread-first.ensures.grown c.spread-second.ensures.grown);
      done = rw c.if-first.true tt;
    }

pub loop-more-preserved : goal.loop-more-preserved
loop-more-preserved c =
    let a = c.args.before.now in
    let b = c.args.behind.now in
    record {
      grown = grown-on (a ++ b) c.args.side.now c.loop-more.side c.spread-second.new.side c.loop-more.invariant.grown
          (grown-both a b c.loop-more.side c.spread-first.new.side c.spread-second.new.side c.spread-first.ensures.grown c.spread-second.ensures.grown);
      done = grow-done a b c.loop-more.side c.spread-first.new.side c.spread-second.new.side false c.spread-second.result (rw c.if-first.false at c.spread-first.ensures.done) c.spread-second.ensures.done;
    }
