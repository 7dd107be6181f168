use Rattle.std.proofs.Common.{◌≡◌, ◌∙◌, sym, ◌++◌, ◌∷◌, [], ap}
use Rattle.graph_core.specs.Picked.{picked}
use Rattle.graph_core.proofs.PickedLaws.{picked-more}
use Rattle.std.proofs.lemmas.List.{take_all}
use Rattle.dicut_lattice.proofs.PickLaws.{picked-arcs}
use Rattle.dicut_lattice.proofs.picks.picked_lines.Goals as goal

pub loop-j-preserved : goal.loop-j-preserved
loop-j-preserved c =
    c.in_ok-push.ensures.items ∙ (λ t. c.loop-j.invariant t ++ c.line.result ∷ [])
    ∙ sym (picked-more c.args.graph.now.lines c.args.numbers.now c.loop-j.j-index c.line.result c.loop-j-test.true c.line.ensures)

pub returns-clause-arcs : goal.returns-clause-arcs
returns-clause-arcs c =
    let all : c.loop-j.lines.items ≡ picked c.args.graph.now.lines c.args.numbers.now = c.loop-j.invariant ∙ ap (picked c.args.graph.now.lines) (take_all c.loop-j.j-index c.args.numbers.now c.loop-j-test.false) in
    rw all (picked-arcs c.args.graph.now c.args.numbers.now c.known.ensures c.requires)
