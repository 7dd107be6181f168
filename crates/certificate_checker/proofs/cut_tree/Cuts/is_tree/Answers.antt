use Rattle.std.proofs.Common.{length, sym, ap, subst, ◌∙◌, refl, arith}
use Rattle.std.proofs.lemmas.Bool.{false≢true}
use Rattle.certificate_checker.specs.TreeSides.{IsReach}
use Rattle.certificate_checker.proofs.TreeLaws.{not-tree, reached-side, sides-more, tree-made}
use Rattle.certificate_checker.proofs.cut_tree.Cuts.is_tree.Goals as goal

pub returns-then-has-clause-tree : goal.returns-then-has-clause-tree
returns-then-has-clause-tree c =
    let g = c.args.self.now.cuts.graph.now in
    let pairs = c.args.pairs.now in
    let j = c.loop-j.j in
    let X = c.reach.new.side in
    let reached : IsReach (length g.names) pairs j X = subst (λ n. IsReach n pairs j X) (c.loop-j.self.side_long ∙ ap (λ h. length h.names) c.loop-j.invariant.same) c.reach.ensures in
    (λ never. absurd (false≢true never), λ tree. absurd (not-tree g pairs j X c.loop-j-test.true reached (sym c.has.ensures ∙ c.if-has.true) tree))

pub loop-j-preserved : goal.loop-j-preserved
loop-j-preserved c =
    let n = length c.args.self.now.cuts.graph.now.names in
    let pairs = c.args.pairs.now in
    let j = c.loop-j.j in
    let X = c.reach.new.side in
    let reached : IsReach n pairs j X = subst (λ m. IsReach m pairs j X) (c.loop-j.self.side_long ∙ ap (λ h. length h.names) c.loop-j.invariant.same) c.reach.ensures in
    record { same = c.loop-j.invariant.same; sides = sides-more n pairs j X c.loop-j.invariant.sides (reached-side n pairs j X reached (sym c.has.ensures ∙ c.if-has.false)) }

pub returns-clause-tree : goal.returns-clause-tree
returns-clause-tree c =
    let g = c.args.self.now.cuts.graph.now in
    let pairs = c.args.pairs.now in
    let many = c.if-pairs-node_count.false in
    (λ _. tree-made g pairs c.requires.nodes (λ k l. c.loop-j.invariant.sides k (omega arith)) (c.if-pairs-node_count.false ∙ c.node_count.ensures), λ _. refl)
