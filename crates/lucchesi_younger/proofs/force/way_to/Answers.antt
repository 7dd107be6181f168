use Rattle.std.proofs.Common.{◌<◌, ◌++◌, ◌∷◌, [], sym, subst, arith}
use Rattle.lucchesi_younger.specs.Search.{IsBack}
use Rattle.lucchesi_younger.proofs.SearchLaws.{visit_read, way_back, way_none}
use Rattle.lucchesi_younger.specs.declared.work.Visit.{Visit}
use Rattle.lucchesi_younger.proofs.force.way_to.Goals as goal

pub place_of-at-requires : goal.place_of-at-requires
place_of-at-requires c = c.requires.search.queued c.args.wanted c.requires.wanted

pub back-init : goal.back-init
back-init c =
    let t = c.args.task.now in
    way_none t.graph.now t.work.now t.late c.args.search.now.visits.items c.place_of-at.result c.new-steps.result c.place_of-at.ensures.within c.new-steps.ensures

pub back-preserved : goal.back-preserved
back-preserved c =
    let t = c.args.task.now in
    let g = t.graph.now in
    let w = t.work.now in
    let visits = c.args.search.now.visits.items in
    let here = c.back.at in
    let place = c.place_of-at.result in
    let pos : 0 < here = omega (arith, c.back-test.true) in
    let is = visit_read visits here c.index-visit.result.now c.back.invariant.below c.index-visit.ensures in
    subst (λ s. IsBack g w t.late visits place c.index-visit.result.now.back s) (sym c.in_ok-push.ensures.ok)
    (subst (λ (x : Visit). IsBack g w t.late visits place x.back (c.back.steps ++ x.step ∷ [])) (sym is)
    (way_back g w t.late c.args.search.now.reached visits 0 c.requires.search place here c.back.steps pos c.back.invariant))
