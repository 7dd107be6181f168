use Rattle.std.proofs.Common.{ap, sym, ◌∙◌, length}
use Rattle.word_sides.proofs.WordLaws.{as_long, clean-made, values-made, and-bitwise}
use Rattle.word_sides.proofs.words.Words.meet.Goals as goal

pub meet-requires : goal.meet-requires
meet-requires c = as_long _ _ _ _ _ _ c.self.view_is c.other.view_is c.requires c.self.invariant c.other.invariant ∙ sym (ap length c.words.ensures)

pub invariant_of-self : goal.invariant_of-self
invariant_of-self c = clean-made _ _ _ _ _ _ c.self.view_is c.other.view_is c.requires _ _ and-bitwise c.self.invariant c.other.invariant _ _ _ c.meet.ensures.len c.meet.ensures.words c.words.ensures

pub returns : goal.returns
returns c = values-made _ _ _ _ _ _ c.self.view_is c.other.view_is c.requires _ _ and-bitwise c.self.invariant c.other.invariant _ _ _ c.meet.ensures.len c.meet.ensures.words c.words.ensures
