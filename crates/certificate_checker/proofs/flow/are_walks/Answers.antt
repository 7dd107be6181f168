use Rattle.std.proofs.Common.{◌≡◌, ◌∙◌, rules, All, subst, refl, true}
use Rattle.std.proofs.lemmas.List.{take_all}
use Rattle.std.proofs.lemmas.List.Elements.{All-more}
use Rattle.graph_core.specs.Walks.{IsWalk}
use Rattle.certificate_checker.proofs.flow.are_walks.Goals as goal

pub loop-row-preserved : goal.loop-row-preserved
loop-row-preserved c =
    let good : c.is_walk.result ≡ true = search rules in
    All-more (IsWalk c.args.graph.now.kind c.args.graph.now.lines c.args.ask.from c.args.ask.to) c.as_slice-row-items.result.now c.loop-row.row-index c.row-item.result c.loop-row-test.true c.loop-row.invariant
    (subst (IsWalk c.args.graph.now.kind c.args.graph.now.lines c.args.ask.from c.args.ask.to) (c.as_slice.ensures ∙ c.row-item.is) (c.is_walk.ensures.0 good))

pub returns : goal.returns
returns c = (
  λ _. subst (All (IsWalk c.args.graph.now.kind c.args.graph.now.lines c.args.ask.from c.args.ask.to)) (take_all c.loop-row.row-index c.as_slice-row-items.result.now c.loop-row-test.false ∙ c.as_slice-row-items.ensures) c.loop-row.invariant,
  λ _. refl,
)
