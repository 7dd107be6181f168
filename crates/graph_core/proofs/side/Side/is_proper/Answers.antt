use Rattle.std.proofs.Common.{◌↔◌, not, length, IsTrue, subst}
use Rattle.graph_core.specs.Side.{IsProper}
use Rattle.graph_core.proofs.ProperLaws.{proper_tells}
use Rattle.graph_core.proofs.side.Side.is_proper.Goals as goal

pub returns-then-not-is_empty : goal.returns-then-not-is_empty
returns-then-not-is_empty c =
    subst (λ X. IsTrue (not c.is_full.result) ↔ IsProper (length X) X) c.self.view_is (proper_tells c.self.inside.words c.is_empty.result c.is_full.result c.is_empty.ensures c.is_full.ensures c.if-not-is_empty.true)
