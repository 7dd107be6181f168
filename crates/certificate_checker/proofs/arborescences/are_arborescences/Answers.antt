use Rattle.std.proofs.Common.{◌≡◌, ◌-◌, ◌↔◌, ◌∙◌, sym, subst, IsTrue, All, length}
use Rattle.std.proofs.lemmas.Bool.{false≢true}
use Rattle.std.proofs.lemmas.List.Elements.{All-weaker}
use Rattle.std.proofs.lemmas.Result.{IfOk-weaker}
use Rattle.graph_core.specs.Picked.{picked}
use Rattle.graph_core.specs.Trees.{IsForest, IsSpanningArborescence}
use Rattle.problem_defs.specs.Arborescences.{IsFeasible}
use Rattle.certificate_checker.specs.Heads.{IsHeaded}
use Rattle.certificate_checker.proofs.Feasible.{arborescence-headed, arborescences-feasible}
use Rattle.certificate_checker.proofs.arborescences.are_arborescences.Goals as goal

pub returns-then-not-are_headed : goal.returns-then-not-are_headed
returns-then-not-are_headed c =
    let g = c.args.graph.now in
    let n = length g.names in
    let r = c.args.root in (
      λ never. absurd (false≢true never),
      λ feasible.
          let headed = All-weaker (IsSpanningArborescence n g.lines r) (λ row. IsHeaded n r (picked g.lines row)) (arborescence-headed n r g.lines) c.args.rows.now feasible.each in
          absurd (false≢true (sym c.if-not-are_headed.true ∙ c.are_headed.ensures.1 (subst (All (λ row. IsHeaded n r (picked g.lines row))) (sym c.as_slice.ensures) headed))),
    )

pub returns : goal.returns
returns c =
    let g = c.args.graph.now in
    let n = length g.names in
    let r = c.args.root in
    let rows = c.args.rows.now in
    let many : All (λ row. length row ≡ n - 1) rows = subst (λ k. All (λ row. length row ≡ k - 1) rows) c.node_count.ensures (c.have_length.ensures.0 c.if-not-have_length.false) in
    let headed = subst (All (λ row. IsHeaded n r (picked g.lines row))) c.as_slice.ensures (c.are_headed.ensures.0 c.if-not-are_headed.false) in
    let both = arborescences-feasible r g rows c.requires.root many (c.in_ok-are_disjoint.ensures.0 c.if-not-branch.false) headed in
    IfOk-weaker c.are_forests.result (λ forests. IsTrue forests ↔ All (IsForest n g.lines) rows) (λ feasible. IsTrue feasible ↔ IsFeasible r g rows)
    (λ _ told. (λ is. both.0 (told.0 is), λ feasible. told.1 (both.1 feasible))) c.are_forests.ensures
