use Rattle.std.proofs.Common.{◌+◌, ◌∙◌, sym, subst, take}
use Rattle.std.proofs.lemmas.Bool.{false≢true}
use Rattle.problem_defs.specs.Dijoin.{IsDual}
use Rattle.certificate_checker.proofs.DicutLaws.{dual-take}
use Rattle.certificate_checker.proofs.dijoin.DijoinAskDecide.is_dual.Goals as goal

pub returns-then-not-is_family : goal.returns-then-not-is_family
returns-then-not-is_family c =
    let g = c.args.graph.now in
    let k = c.total_cost-most.result + 1 in (
      λ never. absurd (false≢true never),
      λ dual. absurd (false≢true (sym c.if-not-is_family.true ∙ c.is_family.ensures.1 (subst (λ P. IsDual g (take k P)) (sym c.as_slice-sides.ensures) (dual-take g c.args.dual.now k dual)))),
    )
