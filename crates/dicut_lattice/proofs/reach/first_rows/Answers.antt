use Rattle.std.proofs.Common.{ap, ◌∙◌, get_or, take, true, ◌≡◌}
use Rattle.std.proofs.lemmas.List.{take_more}
use Rattle.std.proofs.lemmas.List.Elements.{All-get_or}
use Rattle.graph_core.specs.Graph.{no_line}
use Rattle.graph_core.specs.Lines.{leaving}
use Rattle.graph_core.specs.Side.{has}
use Rattle.dicut_lattice.proofs.Rows.{rows-to, leads_in_each}
use Rattle.dicut_lattice.proofs.reach.first_rows.Goals as goal

pub loop-line-preserved : goal.loop-line-preserved
loop-line-preserved c =
    let ls = c.lines-line-items.result.now in
    let i = c.loop-line.line-index in
    rw (take_more ls i no_line c.loop-line-test.true)
    (rows-to (take i ls) (get_or ls i no_line) c.loop-line.invariant c.lead.ensures
    (λ W none. All-get_or (λ l. has W l.tail ≡ true → has W l.head ≡ true) ls i no_line c.loop-line-test.true (leads_in_each ls W (ap (leaving W) c.lines-line-items.ensures ∙ none))))
