use Rattle.certificate_text.proofs.LineLaws.{by-words}
use Rattle.certificate_text.proofs.read_line.read_line.Goals as goal

pub returns : goal.returns
returns c = by-words c.args.graph.now c.args.line.now c.line_of_words.result c.known.ensures c.line_of_words.ensures
