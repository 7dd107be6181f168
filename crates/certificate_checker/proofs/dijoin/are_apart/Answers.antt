use Rattle.std.proofs.Common.{◌∙◌, ◌↔◌, false, true, sym, refl, get_or, All, IsTrue, subst}
use Rattle.std.proofs.lemmas.Bool.{false≢true}
use Rattle.std.proofs.lemmas.List.Elements.{All-more}
use Rattle.graph_core.specs.Graph.{no_line}
use Rattle.certificate_checker.specs.Dicuts.{IsApart}
use Rattle.certificate_checker.proofs.ScanLaws.{scan-stops, scan-ends}
use Rattle.certificate_checker.proofs.dijoin.are_apart.Goals as goal

pub returns-then-not-is_apart : goal.returns-then-not-is_apart
returns-then-not-is_apart c =
    let ls = c.lines-line-items.result.now in
    subst (λ all. IsTrue false ↔ All (IsApart c.args.sides.now) all) c.lines-line-items.ensures
    (scan-stops (IsApart c.args.sides.now) ls c.loop-line.line-index (get_or ls c.loop-line.line-index no_line) no_line c.loop-line-test.true refl
    (λ good. false≢true (sym c.if-not-is_apart.true ∙ c.is_apart.ensures.1 good)))

pub loop-line-preserved : goal.loop-line-preserved
loop-line-preserved c = All-more (IsApart c.args.sides.now) c.lines-line-items.result.now c.loop-line.line-index no_line c.loop-line-test.true c.loop-line.invariant (c.is_apart.ensures.0 c.if-not-is_apart.false)

pub returns : goal.returns
returns c =
    subst (λ all. IsTrue true ↔ All (IsApart c.args.sides.now) all) c.lines-line-items.ensures
    (scan-ends (IsApart c.args.sides.now) c.lines-line-items.result.now c.loop-line.line-index c.loop-line-test.false c.loop-line.invariant)
