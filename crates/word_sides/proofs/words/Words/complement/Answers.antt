use Rattle.std.proofs.Common.{ap, sym, subst, ◌∙◌, map, not}
use Rattle.word_sides.specs.Held.{words_of}
use Rattle.word_sides.specs.Words.{values, IsClean}
use Rattle.word_sides.proofs.words.Words.complement.Goals as goal

pub invariant_of-self : goal.invariant_of-self
invariant_of-self c = subst (λ k. IsClean k (words_of c.complement.new.self)) (sym c.complement.ensures.len) c.complement.ensures.clean

pub returns : goal.returns
returns c = ap (λ k. values k (words_of c.complement.new.self)) c.complement.ensures.len ∙ c.complement.ensures.turned ∙ ap (map not) c.self.view_is
