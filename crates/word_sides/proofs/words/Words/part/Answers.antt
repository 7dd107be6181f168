use Rattle.std.proofs.Common.{sym, refl}
use Rattle.word_sides.proofs.WordLaws.{as_long, clean-made, values-made, without-bitwise}
use Rattle.word_sides.proofs.words.Words.part.Goals as goal

pub part-requires : goal.part-requires
part-requires c = as_long _ _ _ _ _ _ c.self.view_is c.other.view_is c.requires c.self.invariant c.other.invariant

pub invariant_of-self : goal.invariant_of-self
invariant_of-self c = clean-made _ _ _ _ _ _ c.self.view_is c.other.view_is c.requires _ _ without-bitwise c.self.invariant c.other.invariant _ _ _ c.part.ensures.len c.part.ensures.words refl

pub returns-clause-mine : goal.returns-clause-mine
returns-clause-mine c = values-made _ _ _ _ _ _ c.self.view_is c.other.view_is c.requires _ _ without-bitwise c.self.invariant c.other.invariant _ _ _ c.part.ensures.len c.part.ensures.words refl

pub invariant_of-other : goal.invariant_of-other
invariant_of-other c = clean-made _ _ _ _ _ _ c.other.view_is c.self.view_is (sym c.requires) _ _ without-bitwise c.other.invariant c.self.invariant _ _ _ c.part.ensures.other_len c.part.ensures.other_words refl

pub returns-clause-theirs : goal.returns-clause-theirs
returns-clause-theirs c = values-made _ _ _ _ _ _ c.other.view_is c.self.view_is (sym c.requires) _ _ without-bitwise c.other.invariant c.self.invariant _ _ _ c.part.ensures.other_len c.part.ensures.other_words refl
