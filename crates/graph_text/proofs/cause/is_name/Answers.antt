use Rattle.std.specs.Bool.{one_answer}
use Rattle.graph_text.proofs.DraftLemmas.{is_name-Decides}
use Rattle.graph_text.proofs.cause.is_name.Goals as goal

pub returns : goal.returns
returns c = one_answer _ _ c.is_name.ensures (is_name-Decides c.args.word.now)
