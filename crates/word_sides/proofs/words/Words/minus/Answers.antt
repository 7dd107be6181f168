use Rattle.std.proofs.Common.{ap, sym, ◌∙◌, length}
use Rattle.word_sides.proofs.WordLaws.{as_long, clean-made, values-made, without-bitwise}
use Rattle.word_sides.proofs.words.Words.minus.Goals as goal

pub minus-requires : goal.minus-requires
minus-requires c = as_long _ _ _ _ _ _ c.self.view_is c.other.view_is c.requires c.self.invariant c.other.invariant ∙ sym (ap length c.words.ensures)

pub invariant_of-self : goal.invariant_of-self
invariant_of-self c = clean-made _ _ _ _ _ _ c.self.view_is c.other.view_is c.requires _ _ without-bitwise c.self.invariant c.other.invariant _ _ _ c.minus.ensures.len c.minus.ensures.words c.words.ensures

pub returns : goal.returns
returns c = values-made _ _ _ _ _ _ c.self.view_is c.other.view_is c.requires _ _ without-bitwise c.self.invariant c.other.invariant _ _ _ c.minus.ensures.len c.minus.ensures.words c.words.ensures
