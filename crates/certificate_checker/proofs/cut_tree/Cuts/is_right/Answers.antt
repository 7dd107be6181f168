use Rattle.std.proofs.Common.{length, sym, subst, ◌∙◌}
use Rattle.std.proofs.lemmas.Bool.{false≢true}
use Rattle.graph_core.specs.Pairs.{pair_at}
use Rattle.certificate_checker.specs.TreeSides.{IsReach}
use Rattle.certificate_checker.proofs.TreeLaws.{right-pair, pair-weight}
use Rattle.certificate_checker.proofs.cut_tree.Cuts.is_right.Goals as goal

pub returns-then-degree-weight-clause-least : goal.returns-then-degree-weight-clause-least
returns-then-degree-weight-clause-least c =
    let g = c.args.self.now.cuts.graph.now in
    let pairs = c.args.pairs.now in
    let j = c.args.j in
    let X = c.reach.new.side in
    let w = (pair_at pairs j).2 in
    let reached : IsReach (length g.names) pairs j X = subst (λ n. IsReach n pairs j X) c.args.self.now.side_long c.reach.ensures in
    (λ never. absurd (false≢true never), λ right. absurd (c.if-degree-weight.true (c.degree.ensures.count ∙ pair-weight g pairs c.requires.tree j X w c.requires.j reached right)))

pub returns-clause-least : goal.returns-clause-least
returns-clause-least c =
    let g = c.args.self.now.cuts.graph.now in
    let pairs = c.args.pairs.now in
    let j = c.args.j in
    let X = c.reach.new.side in
    let w = (pair_at pairs j).2 in
    let reached : IsReach (length g.names) pairs j X = subst (λ n. IsReach n pairs j X) c.args.self.now.side_long c.reach.ensures in (
      λ yes. right-pair g pairs c.requires.tree j X w c.requires.j reached (sym c.degree.ensures.count ∙ c.if-degree-weight.false) (c.is_least.ensures.least.0 yes),
      λ right. c.is_least.ensures.least.1 right.least,
    )
