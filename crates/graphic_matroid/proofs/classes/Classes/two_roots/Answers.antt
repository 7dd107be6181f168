use Rattle.std.proofs.Common.{refl}
use Rattle.std.proofs.lemmas.Bool.{false≢true}
use Rattle.graphic_matroid.proofs.Steps.{no_forest, forest_after}
use Rattle.graphic_matroid.proofs.classes.Classes.two_roots.Goals as goal

pub returns-then-tail-head-clause-forest : goal.returns-then-tail-head-clause-forest
returns-then-tail-head-clause-forest c = λ ls more w adds forest. (
  λ h. absurd (false≢true h),
  λ whole. absurd (no_forest c.args.self.now.parents.items c.args.line c.requires.tail c.requires.head c.root-tail.result c.root-head.result
      (record { below = c.root-tail.ensures.below; root = c.root-tail.ensures.root; same = c.root-tail.ensures.same })
      (record { below = c.root-head.ensures.below; root = c.root-head.ensures.root; same = c.root-head.ensures.same }) ls more w adds c.if-tail-head.true whole),
)

pub returns-else-tail-head-clause-forest : goal.returns-else-tail-head-clause-forest
returns-else-tail-head-clause-forest c = λ ls more w adds forest. (
  λ h. forest_after c.args.self.now.parents.items c.args.line c.requires.tail c.requires.head c.root-tail.result c.root-head.result
      (record { below = c.root-tail.ensures.below; root = c.root-tail.ensures.root; same = c.root-tail.ensures.same })
      (record { below = c.root-head.ensures.below; root = c.root-head.ensures.root; same = c.root-head.ensures.same }) ls more w adds c.if-tail-head.false forest,
  λ whole. refl,
)
