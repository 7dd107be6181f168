use Rattle.certificate_text.specs.WordsLeft.{words_left}
use Rattle.certificate_text.proofs.LineLaws.{no-keyword}
use Rattle.certificate_text.proofs.read_line.line_of_words.Goals as goal

pub returns-in_default-keyword_of : goal.returns-in_default-keyword_of
returns-in_default-keyword_of c = λ x valid e. no-keyword c.args.graph.now c.in-Some.word.now (words_left c.in-Some.rest) (words_left c.args.words) c.in-Some.ensures c.in_default-keyword_of.ensures x e
