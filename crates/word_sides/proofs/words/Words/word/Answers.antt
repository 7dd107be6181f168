use Rattle.std.proofs.Common.{◌+◌, ◌*◌, ◌∙◌, ap, sym, false, length, get_or, arith}
use Rattle.word_sides.specs.Held.{len_of, words_of}
use Rattle.word_sides.specs.Words.{bit}
use Rattle.word_sides.proofs.WordLaws.{length-values, at-clean, value-word}
use Rattle.word_sides.proofs.words.Words.word.Goals as goal

pub bounds-words-j : goal.bounds-words-j
bounds-words-j c = omega (arith, length-values (len_of c.self.inside.held) (words_of c.self.inside.held), ap length c.self.view_is, c.self.invariant.long, ap length c.words.ensures)

pub offset_bounds-words-j : goal.offset_bounds-words-j
offset_bounds-words-j c = record { fits = omega (arith, length-values (len_of c.self.inside.held) (words_of c.self.inside.held), ap length c.self.view_is, c.self.invariant.few) }

pub returns : goal.returns
returns c b l =
    let ws = words_of c.self.inside.held in
    ap (λ xs. bit (get_or xs c.args.j 0) b) c.words.ensures
    ∙ sym (value-word ws c.args.j b l)
    ∙ sym (at-clean (len_of c.self.inside.held) ws c.self.invariant (64 * c.args.j + b))
    ∙ ap (λ X. get_or X (64 * c.args.j + b) false) c.self.view_is
