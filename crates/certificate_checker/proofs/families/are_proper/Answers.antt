use Rattle.std.proofs.Common.{◌∙◌, sym, All, subst, refl, length}
use Rattle.std.proofs.lemmas.Bool.{false≢true}
use Rattle.std.proofs.lemmas.List.{take_all}
use Rattle.std.proofs.lemmas.List.Elements.{All-more}
use Rattle.graph_core.specs.Side.{IsProper}
use Rattle.certificate_checker.proofs.families.are_proper.Goals as goal

pub returns-then-not-is_proper : goal.returns-then-not-is_proper
returns-then-not-is_proper c = (
  λ never. absurd (false≢true never),
  λ all.
      let rows = c.as_slice-side-items.result.now in
      let every = subst (All (λ X. IsProper (length X) X)) (sym c.as_slice-side-items.ensures) all in
      let proper = subst (λ X. IsProper (length X) X) (sym c.side-item.is) (every c.loop-side.side-index c.side-item.result c.loop-side-test.true) in
      absurd (false≢true (sym c.if-not-is_proper.true ∙ c.is_proper.ensures.1 proper)),
)

pub loop-side-preserved : goal.loop-side-preserved
loop-side-preserved c =
    All-more (λ X. IsProper (length X) X) c.as_slice-side-items.result.now c.loop-side.side-index c.side-item.result c.loop-side-test.true c.loop-side.invariant
    (subst (λ X. IsProper (length X) X) c.side-item.is (c.is_proper.ensures.0 c.if-not-is_proper.false))

pub returns : goal.returns
returns c = (λ _. subst (All (λ X. IsProper (length X) X)) (take_all c.loop-side.side-index c.as_slice-side-items.result.now c.loop-side-test.false ∙ c.as_slice-side-items.ensures) c.loop-side.invariant, λ _. refl)
