use Rattle.std.proofs.Common.{false, ◌+◌, sym, subst}
use Rattle.matroid_union.specs.Growing.{AreFilled}
use Rattle.matroid_union.proofs.Filled.{filled_none, are_more}
use Rattle.matroid_union.proofs.growing.no_sets.Goals as goal

pub loop-preserved : goal.loop-preserved
loop-preserved g c =
    subst (AreFilled (g.M.Matroid.keeps c.args.matroid.now) g.M.Matroid.members (g.M.Matroid.count c.args.matroid.now) (c.loop.counter + 1) (λ p i. false)) (sym c.in_ok-push.ensures.ok)
    (are_more (g.M.Matroid.keeps c.args.matroid.now) g.M.Matroid.members (g.M.Matroid.count c.args.matroid.now) c.loop.counter (λ i. false) c.loop.sets c.in_ok-no_elements.field-0
    (filled_none (g.M.Matroid.keeps c.args.matroid.now) g.M.Matroid.members (g.M.Matroid.count c.args.matroid.now) c.in_ok-no_elements.field-0 c.in_ok-no_elements.ensures.kept c.in_ok-no_elements.ensures.none) c.loop.invariant)
