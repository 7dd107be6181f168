use Rattle.certificate_text.specs.WordsLeft.{words_left}
use Rattle.certificate_text.proofs.LineLaws.{no-tree}
use Rattle.certificate_text.proofs.read_line.tree_line.Goals as goal

pub returns-in-None : goal.returns-in-None
returns-in-None c = no-tree c.args.graph.now (words_left c.args.words) c.in-None.ensures
