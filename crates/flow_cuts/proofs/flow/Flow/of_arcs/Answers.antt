use Rattle.std.proofs.Common.{◌∙◌, List, ap, sym, subst}
use Rattle.std.specs.Prelude.{map}
use Rattle.flow_cuts.specs.declared.network.Cap.{Cap}
use Rattle.flow_cuts.specs.declared.network.Link.{Link}
use Rattle.flow_cuts.specs.Residual.{link_of, arc_along, AreLinksOf}
use Rattle.flow_cuts.proofs.LinkLaws.{link_ends, arc_along-link_of, AreLinksOf-arcs}
use Rattle.flow_cuts.proofs.flow.Flow.of_arcs.Goals as goal

abbrev no_cap : Cap
no_cap = record { tail = 0; head = 0; cap = 0 }

pub over-requires-clause-from : goal.over-requires-clause-from
over-requires-clause-from c = λ s lt. (link_ends c.args.n link_of c.args.arcs.now c.in_ok-whole.whole.items no_cap c.in_ok-whole.ensures.links c.requires.ends s lt).0

pub over-requires-clause-to : goal.over-requires-clause-to
over-requires-clause-to c = λ s lt. (link_ends c.args.n link_of c.args.arcs.now c.in_ok-whole.whole.items no_cap c.in_ok-whole.ensures.links c.requires.ends s lt).1

pub over-requires-clause-arcs : goal.over-requires-clause-arcs
over-requires-clause-arcs c =
    let P : List Link → Type 0 = λ ls. AreLinksOf (map arc_along ls) ls in
    let Q : List Cap → Type 0 = λ arcs. AreLinksOf arcs (map link_of c.args.arcs.now) in
    subst P (sym c.in_ok-whole.ensures.links) (subst Q (sym (arc_along-link_of c.args.arcs.now)) (AreLinksOf-arcs c.args.arcs.now))

pub returns : goal.returns
returns c = rw (ap (map arc_along) c.in_ok-whole.ensures.links ∙ arc_along-link_of c.args.arcs.now) at c.over.ensures
