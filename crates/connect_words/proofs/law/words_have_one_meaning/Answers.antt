use Rattle.connect_words.proofs.MeaningLemmas.{one_command, one_place, not_both}
use Rattle.connect_words.proofs.law.words_have_one_meaning.Goals as goal

pub returns : goal.returns
returns c = record { command = one_command; place = one_place; not_both = not_both }
