use Rattle.std.proofs.Common.{ap, sym, ◌∙◌, [], unwrap_or}
use Rattle.connect_words.specs.Asks.{node_named}
use Rattle.connect_words.proofs.asks.node_at.Goals as goal

pub returns-in-None : goal.returns-in-None
returns-in-None c = c.node_named-in-None.ensures ∙ ap (λ o. node_named c.args.graph.now (unwrap_or o [])) (sym c.in-None.ensures)
