use Rattle.std.proofs.Common.{◌≡◌, ◌↔◌, ◌∙◌, ◌<◌, ℕ, sym, subst, IsTrue, All, length}
use Rattle.std.specs.List.{concat}
use Rattle.std.proofs.lemmas.Bool.{false≢true}
use Rattle.std.proofs.lemmas.Result.{IfOk-weaker}
use Rattle.graph_core.specs.Picked.{occurrences}
use Rattle.graph_core.specs.Trees.{IsForest}
use Rattle.problem_defs.specs.Forests.{IsFeasible}
use Rattle.certificate_checker.proofs.forests.are_cover.Goals as goal

pub returns-then-not-branch : goal.returns-then-not-branch
returns-then-not-branch c = (
  λ never. absurd (false≢true never),
  λ feasible.
      let once = subst (λ m. (j : ℕ) → j < m → occurrences j (concat c.args.rows.now) ≡ 1) (sym c.line_count.ensures.count) feasible.once in
      absurd (false≢true (sym c.if-not-branch.true ∙ c.in_ok-cover_once.ensures.1 once)),
)

pub returns : goal.returns
returns c =
    let g = c.args.graph.now in
    let rows = c.args.rows.now in
    let once = subst (λ m. (j : ℕ) → j < m → occurrences j (concat rows) ≡ 1) c.line_count.ensures.count (c.in_ok-cover_once.ensures.0 c.if-not-branch.false) in
    IfOk-weaker c.are_forests.result (λ forests. IsTrue forests ↔ All (IsForest (length g.names) g.lines) rows) (λ cover. IsTrue cover ↔ IsFeasible g rows)
    (λ _ told. (λ is. record { each = told.0 is; once = once }, λ feasible. told.1 feasible.each)) c.are_forests.ensures
