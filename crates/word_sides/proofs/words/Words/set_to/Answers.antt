use Rattle.std.proofs.Common.{ap, sym, subst, ◌∙◌, length}
use Rattle.word_sides.specs.Words.{values, IsClean}
use Rattle.word_sides.proofs.WordLaws.{as_many, as_long}
use Rattle.word_sides.proofs.words.Words.set_to.Goals as goal
use Rattle.word_sides.specs.Held.{len_of, words_of}

pub set_to-requires : goal.set_to-requires
set_to-requires c = as_long _ _ _ _ _ _ c.self.view_is c.other.view_is c.requires c.self.invariant c.other.invariant ∙ sym (ap length c.words.ensures)

pub invariant_of-self : goal.invariant_of-self
invariant_of-self c =
    let n = c.set_to.ensures.len ∙ as_many _ _ _ _ _ _ c.self.view_is c.other.view_is c.requires in
    let is = c.set_to.ensures.words ∙ c.words.ensures in
    subst (λ k. IsClean k (words_of c.set_to.new.self)) (sym n) (subst (IsClean (len_of c.other.inside.held)) (sym is) c.other.invariant)

pub returns : goal.returns
returns c =
    let n = c.set_to.ensures.len ∙ as_many _ _ _ _ _ _ c.self.view_is c.other.view_is c.requires in
    let is = c.set_to.ensures.words ∙ c.words.ensures in
    ap (λ k. values k (words_of c.set_to.new.self)) n ∙ ap (values (len_of c.other.inside.held)) is ∙ c.other.view_is
