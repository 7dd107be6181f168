use Rattle.std.proofs.Common.{◌≡◌, ap, sym, ◌∙◌, subst, All, false}
use Rattle.word_sides.specs.Held.{len_of, words_of}
use Rattle.word_sides.specs.Words.{value}
use Rattle.word_sides.proofs.WordLaws.{all_false, none_true}
use Rattle.word_sides.proofs.words.Words.is_empty.Goals as goal

pub returns : goal.returns
returns c =
    let n = len_of c.self.inside.held in
    let ws = words_of c.self.inside.held in
    let is = c.words.ensures in (
      λ yes. subst (All (λ b. b ≡ false)) c.self.view_is (all_false n ws (λ i. ap (λ x. value x i) (sym is) ∙ c.are_zero.ensures.0 yes i)),
      λ none. c.are_zero.ensures.1 (λ i. ap (λ x. value x i) is ∙ none_true n ws c.self.invariant (subst (All (λ b. b ≡ false)) (sym c.self.view_is) none) i),
    )
