use Rattle.connect_words.proofs.NumberLemmas.{reads_number}
use Rattle.connect_words.proofs.words.number_at.Goals as goal

pub returns-in-Some : goal.returns-in-Some
returns-in-Some c =
    let known = c.number.ensures in
    reads_number _ c.in-Some.word.now c.number.result c.unwrap_or.result c.in-Some.ensures known.found known.within known.absent c.unwrap_or.ensures
