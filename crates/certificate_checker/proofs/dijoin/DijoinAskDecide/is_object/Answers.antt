use Rattle.std.proofs.Common.{◌≡◌, ◌<◌, ◌∙◌, ◌↔◌, false, sym, All, length, IsTrue, subst}
use Rattle.std.proofs.lemmas.Bool.{false≢true}
use Rattle.std.proofs.lemmas.Result.{IfOk-weaker}
use Rattle.graph_core.specs.Picked.{picked, IsDistinct}
use Rattle.problem_defs.specs.Dijoin.{IsFeasible}
use Rattle.certificate_checker.specs.Dicuts.{Covers}
use Rattle.certificate_checker.proofs.dijoin.DijoinAskDecide.is_object.Goals as goal

pub returns-then-not-are_free : goal.returns-then-not-are_free
returns-then-not-are_free c = (
  λ never. absurd (false≢true never),
  λ join. absurd (false≢true (sym c.if-not-are_free.true ∙ c.are_free.ensures.1 (subst (λ row. All (λ l. l.fixed ≡ false) (picked c.args.graph.now.lines row)) (sym c.as_slice-row.ensures) join.free))),
)

pub returns-then-not-branch : goal.returns-then-not-branch
returns-then-not-branch c = (
  λ never. absurd (false≢true never),
  λ join. absurd (false≢true (sym c.if-not-branch.true ∙ c.in_ok-are_distinct.ensures.1 (subst IsDistinct (sym c.as_slice-row.ensures) join.picks.distinct))),
)

pub returns : goal.returns
returns c =
    let g = c.args.graph.now in
    let row = c.as_slice-row.result.now in
    let same = c.as_slice-row.ensures in
    IfOk-weaker c.covers.result (λ is. IsTrue is ↔ Covers g row) (λ is. IsTrue is ↔ IsFeasible g c.args.object.now)
    (λ is told. (
      λ covers. subst (IsFeasible g) same (record {
        picks = record { in_range = subst (All (λ j. j < length g.lines)) (sym same) c.requires.fits; distinct = c.in_ok-are_distinct.ensures.0 c.if-not-branch.false };
        free = c.are_free.ensures.0 c.if-not-are_free.false;
        covers = told.0 covers;
      }),
      λ join. told.1 (subst (Covers g) (sym same) join.covers),
    ))
    c.covers.ensures
