use Rattle.std.proofs.Common.{length, replicate, false, true, set, refl, sym, subst, ◌∙◌}
use Rattle.graph_core.specs.Graph.{Fits}
use Rattle.graph_core.proofs.Counting.{All-slice_get}
use Rattle.lucchesi_younger.specs.Search.{IsSearch}
use Rattle.lucchesi_younger.proofs.SearchLaws.{search_start}
use Rattle.lucchesi_younger.specs.declared.work.By.TheVariants.{Left}
use Rattle.lucchesi_younger.specs.declared.work.Step.{Step}
use Rattle.lucchesi_younger.proofs.force.begin.Goals as goal

pub try_jump-requires-clause-search : goal.try_jump-requires-clause-search
try_jump-requires-clause-search c =
    let t = c.args.task.now in
    let g = t.graph.now in
    let l = t.line in
    let fits = All-slice_get (Fits (length g.names)) g.lines c.known.ensures.makes.ends t.late l t.arc in
    let st : Step = record { by = Left t.late; from = l.tail; to = l.head } in
    subst (λ r. IsSearch g t.work.now t.late r c.in_ok-search.search.visits.items 0) (sym (c.in_ok-search.ensures.reached ∙ (λ i. set (replicate (c.node_count.ensures i) false) l.head true)))
    (subst (λ v. IsSearch g t.work.now t.late (set (replicate (length g.names) false) l.head true) v 0) (sym c.in_ok-search.ensures.visits)
    (search_start g t.work.now t.late st refl fits.head))
