use Rattle.std.proofs.Common.{◌∙◌, ◌++◌, ◌↔◌, IsTrue, All, sym, length}
use Rattle.std.proofs.lemmas.Bool.{false≢true}
use Rattle.std.proofs.lemmas.Result.{IfOk-weaker}
use Rattle.graph_core.specs.Graph.{Fits, lines_of}
use Rattle.certificate_checker.specs.Copies.{IsKConnected}
use Rattle.certificate_checker.proofs.Enough.{apart-fit, fit-apart}
use Rattle.certificate_checker.proofs.augment.are_enough.Goals as goal

pub returns-then-not-are_apart : goal.returns-then-not-are_apart
returns-then-not-are_apart c = (λ never. absurd (false≢true never), λ both. absurd (false≢true (sym c.if-not-are_apart.true ∙ c.are_apart.ensures.1 (fit-apart (length c.args.graph.now.names) c.args.pairs.now both.0))))

pub returns : goal.returns
returns c =
    let g = c.args.graph.now in
    let n = length g.names in
    let all = g.lines ++ lines_of c.args.pairs.now in
    let fit = apart-fit n c.args.pairs.now c.requires (c.are_apart.ensures.0 c.if-not-are_apart.false) in
    IfOk-weaker c.is_connected_with.result (λ is. IsTrue is ↔ IsKConnected g.kind c.args.k n all) (λ is. IsTrue is ↔ (All (Fits n) (lines_of c.args.pairs.now) × IsKConnected g.kind c.args.k n all))
    (λ _ told. (λ is. (fit, told.0 is), λ both. told.1 both.1)) c.is_connected_with.ensures
