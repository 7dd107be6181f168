use Rattle.std.proofs.Common.{[], refl, sym, ◌∙◌}
use Rattle.std.proofs.lemmas.Option.{get_or_from_slice_get}
use Rattle.connect_words.proofs.AskLemmas.{position-found, position-absent}
use Rattle.connect_words.proofs.asks.node_named.Goals as goal

pub returns-in-Some : goal.returns-in-Some
returns-in-Some c =
    let found = c.in-Some.ensures in
    sym (position-found c.args.graph.now.names c.args.name.now c.in-Some.node c.known.ensures.makes.distinct found.within (get_or_from_slice_get c.args.graph.now.names c.in-Some.node c.args.name.now [] found.found))

pub returns-in-None : goal.returns-in-None
returns-in-None c = c.node_count.ensures ∙ sym (position-absent c.args.graph.now.names c.args.name.now (c.in-None.ensures.absent.0 refl))
