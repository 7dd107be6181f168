use Rattle.std.proofs.Common.{◌/◌, ◌%◌, ◌∙◌, ap, sym, false, length, get_or, eqb, arith}
use Rattle.std.proofs.lemmas.Nat.Bits.{shr_and_one}
use Rattle.word_sides.specs.Held.{len_of, words_of}
use Rattle.word_sides.specs.Words.{value}
use Rattle.word_sides.proofs.WordLaws.{length-values, at-clean}
use Rattle.word_sides.proofs.words.Words.has.Goals as goal

pub bounds-words-v : goal.bounds-words-v
bounds-words-v c = omega (arith, length-values (len_of c.self.inside.held) (words_of c.self.inside.held), ap length c.self.view_is, c.self.invariant.long, ap length c.words.ensures)

pub returns : goal.returns
returns c =
    ap (λ x. eqb x 1) (shr_and_one (get_or c.words.result.now (c.args.v / 64) 0) (c.args.v % 64))
    ∙ ap (λ ws. value ws c.args.v) c.words.ensures
    ∙ sym (at-clean _ _ c.self.invariant c.args.v)
    ∙ ap (λ X. get_or X c.args.v false) c.self.view_is
