use Rattle.std.proofs.Common.{sym, ap, ◌∙◌, length}
use Rattle.word_sides.proofs.WordLaws.{length-values}
use Rattle.word_sides.proofs.words.Words.len.Goals as goal

pub returns : goal.returns
returns c = c.len.ensures ∙ sym (length-values _ _) ∙ ap length c.self.view_is
