use Rattle.certificate_text.specs.WordsLeft.{words_left}
use Rattle.certificate_text.proofs.LineLaws.{no-flow}
use Rattle.certificate_text.proofs.asks.flow_of.Goals as goal

pub returns-in-None : goal.returns-in-None
returns-in-None c = no-flow c.args.graph.now (words_left c.args.words) c.in-None.ensures
