use Rattle.std.proofs.Common.{◌≡◌, ap, sym, subst, ◌∙◌, length, eqb-true}
use Rattle.word_sides.specs.Held.{len_of, words_of}
use Rattle.word_sides.specs.Words.{value, values, IsClean}
use Rattle.word_sides.proofs.WordLaws.{as_many, as_long, same_lists, same_places}
use Rattle.word_sides.proofs.words.Words.same.Goals as goal

pub same_words-requires : goal.same_words-requires
same_words-requires c =
    let long = sym c.len.ensures ∙ c.if-len.true ∙ c.len-2.ensures in
    ap length c.words.ensures ∙ as_long _ _ _ _ _ _ c.self.view_is c.other.view_is long c.self.invariant c.other.invariant ∙ sym (ap length c.words-then-len.ensures)

pub returns-then-len : goal.returns-then-len
returns-then-len c =
    let n = len_of c.self.inside.held in
    let xs = words_of c.self.inside.held in
    let ys = words_of c.other.inside.held in
    let long = sym c.len.ensures ∙ c.if-len.true ∙ c.len-2.ensures in
    let many = as_many _ _ _ _ _ _ c.self.view_is c.other.view_is long in
    let vy : values n ys ≡ c.args.other.now = ap (λ k. values k ys) many ∙ c.other.view_is in
    let cy = subst (λ k. IsClean k ys) (sym many) c.other.invariant in
    let x = c.words.ensures in
    let y = c.words-then-len.ensures in (
      λ yes. sym c.self.view_is ∙ same_lists n xs ys (λ i. ap (λ ws. value ws i) (sym x) ∙ c.same_words.ensures.0 yes i ∙ ap (λ ws. value ws i) y) ∙ vy,
      λ e. c.same_words.ensures.1 (λ i. ap (λ ws. value ws i) x ∙ same_places n xs ys c.self.invariant cy (c.self.view_is ∙ e ∙ sym vy) i ∙ ap (λ ws. value ws i) (sym y)),
    )

pub returns-else-len : goal.returns-else-len
returns-else-len c = (
  λ yes. absurd (c.if-len.false (eqb-true c.len.result c.len-2.result yes)),
  λ e. absurd (c.if-len.false (c.len.ensures ∙ ap length e ∙ sym c.len-2.ensures)),
)
