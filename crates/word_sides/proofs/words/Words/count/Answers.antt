use Rattle.std.proofs.Common.{◌*◌, ◌∙◌, ap, length, count_by, arith}
use Rattle.word_sides.specs.Words.{ones_in}
use Rattle.word_sides.proofs.CountLaws.{ones-all}
use Rattle.word_sides.proofs.words.Words.count.Goals as goal

pub count_ones-requires : goal.count_ones-requires
count_ones-requires c = omega (arith, ap length c.words.ensures, c.self.invariant.long, c.self.invariant.few)

pub returns : goal.returns
returns c = c.count_ones.ensures ∙ ap (λ ws. ones_in (64 * length ws) ws) c.words.ensures ∙ ones-all _ _ c.self.invariant ∙ ap (count_by (λ b. b)) c.self.view_is
