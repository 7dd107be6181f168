use Rattle.std.proofs.Common.{◌∙◌, ap, sym, subst, false, length, replicate}
use Rattle.word_sides.specs.Held.{len_of, words_of}
use Rattle.word_sides.specs.Words.{values, IsClean}
use Rattle.word_sides.proofs.WordLaws.{length-values, values-zeros, clean-zeros}
use Rattle.word_sides.proofs.words.Words.clear.Goals as goal

pub invariant_of-self : goal.invariant_of-self
invariant_of-self c =
    let n = len_of c.self.inside.held in
    let ws = words_of c.self.inside.held in
    subst (λ k. IsClean k (words_of c.clear.new.self)) (sym c.clear.ensures.len)
    (subst (IsClean n) (sym c.clear.ensures.words) (clean-zeros n (length ws) c.self.invariant.few c.self.invariant.long))

pub returns : goal.returns
returns c =
    let n = len_of c.self.inside.held in
    let ws = words_of c.self.inside.held in
    ap (λ k. values k (words_of c.clear.new.self)) c.clear.ensures.len ∙ ap (values n) c.clear.ensures.words ∙ values-zeros n (length ws)
    ∙ ap (λ k. replicate k false) (sym (length-values n ws) ∙ ap length c.self.view_is)
