use Rattle.std.proofs.Common.{ap, ◌∙◌}
use Rattle.word_sides.specs.Held.{words_of}
use Rattle.word_sides.specs.Words.{values, room}
use Rattle.word_sides.proofs.WordLaws.{values-zeros}
use Rattle.word_sides.proofs.words.Words.empty.Goals as goal

pub returns : goal.returns
returns c = ap (λ k. values k (words_of c.in_ok-held.held)) c.in_ok-held.ensures.len ∙ ap (values c.args.n) c.in_ok-held.ensures.words ∙ values-zeros c.args.n (room c.args.n)
