use Rattle.std.proofs.Common.{◌≡◌, ◌∙◌, [], ◌∷◌, false, sym, refl, All, subst, take}
use Rattle.std.proofs.lemmas.Bool.{false≢true}
use Rattle.std.proofs.lemmas.List.{take_all}
use Rattle.std.proofs.lemmas.List.Elements.{All-nil, All-cons, All-append}
use Rattle.graph_core.specs.Picked.{picked}
use Rattle.graph_core.specs.declared.graph.Line.{Line}
use Rattle.graph_core.proofs.PickedLaws.{picked-more}
use Rattle.certificate_checker.proofs.DicutLaws.{picked-at}
use Rattle.certificate_checker.proofs.dijoin.are_free.Goals as goal

pub returns-then-line : goal.returns-then-line
returns-then-line c = (
  λ never. absurd (false≢true never),
  λ free. absurd (false≢true (sym (picked-at (λ x. x.fixed ≡ false) c.args.graph.now.lines c.args.row.now c.loop-j.j-index c.line.result c.loop-j-test.true c.line.ensures free) ∙ c.if-line.true)),
)

pub loop-j-preserved : goal.loop-j-preserved
loop-j-preserved c =
    let ls = c.args.graph.now.lines in
    let row = c.args.row.now in
    let free : Line → Type 0 = λ x. x.fixed ≡ false in
    subst (All free) (sym (picked-more ls row c.loop-j.j-index c.line.result c.loop-j-test.true c.line.ensures))
    (All-append free (picked ls (take c.loop-j.j-index row)) (c.line.result ∷ []) c.loop-j.invariant (All-cons free c.line.result [] c.if-line.false (All-nil free)))

pub returns : goal.returns
returns c = (λ _. subst (λ row. All (λ x. x.fixed ≡ false) (picked c.args.graph.now.lines row)) (take_all c.loop-j.j-index c.args.row.now c.loop-j-test.false) c.loop-j.invariant, λ _. refl)
