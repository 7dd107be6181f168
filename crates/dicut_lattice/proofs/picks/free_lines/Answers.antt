use Rattle.std.proofs.Common.{◌≡◌, not, filter, ◌∙◌, ap}
use Rattle.std.proofs.lemmas.List.{take_all}
use Rattle.dicut_lattice.proofs.PickLaws.{filter-arcs}
use Rattle.dicut_lattice.proofs.picks.free_lines.Goals as goal

pub returns-clause-arcs : goal.returns-clause-arcs
returns-clause-arcs c =
    let all : c.loop-line.lines.items ≡ filter (λ l. not l.fixed) c.args.graph.now.lines = c.loop-line.invariant ∙ ap (filter (λ l. not l.fixed)) (take_all c.loop-line.line-index c.lines-line-items.result.now c.loop-line-test.false ∙ c.lines-line-items.ensures) in
    rw all (filter-arcs c.args.graph.now (λ l. not l.fixed) c.known.ensures)
