use Rattle.std.proofs.Common.{◌≡◌, ◌∙◌, sym, All, subst, refl, get_or, length}
use Rattle.std.proofs.lemmas.Bool.{false≢true}
use Rattle.std.proofs.lemmas.List.{take_all}
use Rattle.std.proofs.lemmas.List.Elements.{All-more}
use Rattle.graph_core.specs.Trees.{IsForest}
use Rattle.certificate_checker.proofs.parts.are_forests.Goals as goal

pub returns-then-not-branch : goal.returns-then-not-branch
returns-then-not-branch c = (
  λ never. absurd (false≢true never),
  λ all.
      let rows = c.as_slice-row-items.result.now in
      let row : c.as_slice.result.now ≡ get_or rows c.loop-row.row-index c.row-item.result = c.as_slice.ensures ∙ c.row-item.is in
      let every : All (IsForest (length c.args.graph.now.names) c.args.graph.now.lines) rows = subst (All (IsForest (length c.args.graph.now.names) c.args.graph.now.lines)) (sym c.as_slice-row-items.ensures) all in
      let forest = subst (IsForest (length c.args.graph.now.names) c.args.graph.now.lines) (sym row) (every c.loop-row.row-index c.row-item.result c.loop-row-test.true) in
      absurd (false≢true (sym c.if-not-branch.true ∙ c.in_ok-is_forest.ensures.1 forest)),
)

pub loop-row-preserved : goal.loop-row-preserved
loop-row-preserved c =
    All-more (IsForest (length c.args.graph.now.names) c.args.graph.now.lines) c.as_slice-row-items.result.now c.loop-row.row-index c.row-item.result c.loop-row-test.true c.loop-row.invariant
    (subst (IsForest (length c.args.graph.now.names) c.args.graph.now.lines) (c.as_slice.ensures ∙ c.row-item.is) (c.in_ok-is_forest.ensures.0 c.if-not-branch.false))

pub returns : goal.returns
returns c = (
  λ _. subst (All (IsForest (length c.args.graph.now.names) c.args.graph.now.lines)) (take_all c.loop-row.row-index c.as_slice-row-items.result.now c.loop-row-test.false ∙ c.as_slice-row-items.ensures) c.loop-row.invariant,
  λ _. refl,
)
