use Rattle.std.proofs.Common.{◌∙◌, sym, subst}
use Rattle.std.proofs.lemmas.Bool.{false≢true}
use Rattle.std.proofs.lemmas.List.Elements.{All-more}
use Rattle.problem_defs.specs.Dijoin.{IsClosed}
use Rattle.certificate_checker.proofs.ScanLaws.{scan-stops, scan-ends}
use Rattle.certificate_checker.proofs.dijoin.are_closed.Goals as goal

pub returns-then-not-is_closed : goal.returns-then-not-is_closed
returns-then-not-is_closed c =
    scan-stops (IsClosed c.args.graph.now) c.args.sides.now c.loop-side.side-index c.side-item.result c.side-item.result c.loop-side-test.true c.side-item.is
    (λ closed. false≢true (sym c.if-not-is_closed.true ∙ c.is_closed.ensures.1 closed))

pub loop-side-preserved : goal.loop-side-preserved
loop-side-preserved c =
    All-more (IsClosed c.args.graph.now) c.args.sides.now c.loop-side.side-index c.side-item.result c.loop-side-test.true c.loop-side.invariant
    (subst (IsClosed c.args.graph.now) c.side-item.is (c.is_closed.ensures.0 c.if-not-is_closed.false))

pub returns : goal.returns
returns c = scan-ends (IsClosed c.args.graph.now) c.args.sides.now c.loop-side.side-index c.loop-side-test.false c.loop-side.invariant
