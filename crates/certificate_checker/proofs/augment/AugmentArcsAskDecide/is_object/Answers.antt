use Rattle.std.proofs.Common.{◌++◌, ◌↔◌, IsTrue, All, sym, subst, length}
use Rattle.std.proofs.lemmas.Result.{IfOk-weaker}
use Rattle.graph_core.specs.Graph.{Fits, lines_of}
use Rattle.problem_defs.specs.AugmentArcs.{IsFeasible}
use Rattle.certificate_checker.specs.Copies.{IsKConnected}
use Rattle.certificate_checker.proofs.augment.AugmentArcsAskDecide.is_object.Goals as goal

pub returns : goal.returns
returns c =
    let g = c.args.graph.now in
    let k = c.args.self.now.k in
    let n = length g.names in
    let pairs = c.args.object.now in
    let all = g.lines ++ lines_of pairs in
    IfOk-weaker c.are_enough.result (λ is. IsTrue is ↔ (All (Fits n) (lines_of pairs) × IsKConnected g.kind k n all)) (λ is. IsTrue is ↔ IsFeasible k g pairs)
    (λ _ told. (
      λ is. let both = told.0 is in record { fit = both.0; connected = subst (λ kind. IsKConnected kind k n all) c.requires.suits.kind both.1 },
      λ feasible. told.1 (feasible.fit, subst (λ kind. IsKConnected kind k n all) (sym c.requires.suits.kind) feasible.connected),
    ))
    c.are_enough.ensures
