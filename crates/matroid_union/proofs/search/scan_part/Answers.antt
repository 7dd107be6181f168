use Rattle.std.proofs.Common.{◌≡◌, ◌+◌, ◌<◌, ◌≤◌, length, false, get_or, sym, refl, ap, ◌∙◌, subst, arith}
use Rattle.std.proofs.lemmas.Bool.{both_ways}
use Rattle.std.proofs.lemmas.List.{get_or_read, length_push}
use Rattle.matroid_union.specs.Parts.{own_of, part, kept}
use Rattle.matroid_union.specs.Search.{IsFull, IsShut}
use Rattle.matroid_union.proofs.SearchLaws.{begins_refl, begins_trans}
use Rattle.matroid_union.proofs.ScanLaws.{queue_short, full_one_more, reach_step}
use Rattle.matroid_union.proofs.KeptSets.{takes_plus, kept_room, met_more}
use Rattle.matroid_union.proofs.search.scan_part.Goals as goal

pub reach-init : goal.reach-init
reach-init g c =
    let e : c.index-element.result.now ≡ get_or c.args.search.now.queue.items c.args.at 0 = get_or_read c.args.search.now.queue.items c.args.at c.index-element.result.now c.requires.place c.index-element.ensures 0 in
    record {
      filled = c.requires.met;
      trial = c.requires.trial;
      begins = begins_refl c.args.search.now.queue.items;
      place = c.requires.place;
      element = sym e;
      search = c.requires.search;
      passed = subst (λ x. IsFull (g.M.Matroid.count c.args.matroid.now) (g.M.Matroid.free c.args.matroid.now) c.args.number (own_of c.args.owner.now) c.args.search.now.reached x) (sym e) c.requires.passed;
      dead = refl;
    }

pub takes-requires-clause-kept : goal.takes-requires-clause-kept
takes-requires-clause-kept g c = (c.reach.invariant.filled.each c.args.number c.item.result.now c.item.ensures).kept

pub takes-requires-clause-below : goal.takes-requires-clause-below
takes-requires-clause-below g c = subst (λ x. x < (g.M.Matroid.count c.args.matroid.now)) c.reach.invariant.element (c.reach.invariant.search.tree.inside c.args.at c.reach.invariant.place)

pub find_place-place-requires-clause-full : goal.find_place-place-requires-clause-full
find_place-place-requires-clause-full g c =
    let e : c.index-element.result.now ≡ get_or c.args.search.now.queue.items c.args.at 0 = get_or_read c.args.search.now.queue.items c.args.at c.index-element.result.now c.requires.place c.index-element.ensures 0 in
    let shut = subst (λ x. IsShut (g.M.Matroid.count c.args.matroid.now) (g.M.Matroid.free c.args.matroid.now) c.args.k (own_of c.args.owner.now) x) (sym e) c.requires.shut in
    shut c.args.number c.requires.below (sym c.is_part.ensures ∙ c.if-is_part.false)

pub find_place-place-requires-clause-room : goal.find_place-place-requires-clause-room
find_place-place-requires-clause-room g c =
    let below : c.index-element.result.now < (g.M.Matroid.count c.args.matroid.now) = subst (λ x. x < (g.M.Matroid.count c.args.matroid.now)) c.reach.invariant.element (c.reach.invariant.search.tree.inside c.args.at c.reach.invariant.place) in
    let answer = takes_plus (g.M.Matroid.count c.args.matroid.now) (g.M.Matroid.free c.args.matroid.now) (g.met.M.Matroid.laws c.args.matroid.now) (g.M.Matroid.keeps c.args.matroid.now) g.M.Matroid.members (kept (own_of c.args.owner.now) c.reach.search.reached c.args.number (g.M.Matroid.count c.args.matroid.now)) c.index-element.result.now c.item.result.now c.takes.result below (c.reach.invariant.filled.each c.args.number c.item.result.now c.item.ensures) c.takes.ensures in
    answer.0 c.reach-test.true

pub add-requires-clause-kept : goal.add-requires-clause-kept
add-requires-clause-kept g c = (c.reach.invariant.filled.each c.args.number c.item_mut.result.now c.item_mut.ensures.value).kept

pub add-requires-clause-stays : goal.add-requires-clause-stays
add-requires-clause-stays g c =
    kept_room (g.M.Matroid.count c.args.matroid.now) (g.M.Matroid.free c.args.matroid.now) (g.met.M.Matroid.laws c.args.matroid.now) (g.M.Matroid.keeps c.args.matroid.now) g.M.Matroid.members (own_of c.args.owner.now) c.reach.search.reached c.args.number (g.M.Matroid.count c.args.matroid.now) c.find_place-place.result c.item_mut.result.now c.find_place-place.ensures.below c.find_place-place.ensures.held (c.requires.packing.parts c.args.number c.requires.below) (c.reach.invariant.filled.each c.args.number c.item_mut.result.now c.item_mut.ensures.value)

pub reach-preserved : goal.reach-preserved
reach-preserved g c =
    let apart : part (own_of c.args.owner.now) c.args.number c.index-element.result.now ≡ false = sym c.is_part.ensures ∙ c.if-is_part.false in
    let step = reach_step (g.M.Matroid.count c.args.matroid.now) (g.M.Matroid.free c.args.matroid.now) (g.met.M.Matroid.laws c.args.matroid.now) c.args.k (own_of c.args.owner.now) c.reach.search.dead c.reach.search.reached c.reach.search.queue.items c.reach.search.back.items c.args.at c.args.number c.index-element.result.now c.find_place-place.result c.reach.invariant.search c.reach.invariant.place c.reach.invariant.element c.requires.below c.find_place-place.ensures.below c.find_place-place.ensures.held c.find_place-place.ensures.fresh apart c.find_place-place.ensures.swaps c.reach-in-reach.new.self.dead c.reach-in-reach.new.self.reached c.reach-in-reach.new.self.queue.items c.reach-in-reach.new.self.back.items c.reach-in-reach.ensures.dead c.in_ok-reach.ensures.reached c.in_ok-reach.ensures.queue c.in_ok-reach.ensures.back in
    record {
      filled = met_more (g.M.Matroid.count c.args.matroid.now) (g.M.Matroid.free c.args.matroid.now) (g.met.M.Matroid.laws c.args.matroid.now) (g.M.Matroid.keeps c.args.matroid.now) g.M.Matroid.members c.args.k (own_of c.args.owner.now) c.reach.search.reached c.reach-in-reach.new.self.reached c.find_place-place.result c.args.number c.reach.met.parts c.item_mut.result.now c.add.new.set c.find_place-place.ensures.below c.reach.invariant.search.reached_long c.find_place-place.ensures.held c.in_ok-reach.ensures.reached c.item_mut.ensures.value c.add.ensures.kept c.add.ensures.added c.reach.invariant.filled;
      trial = c.find_place-place.ensures.kept;
      begins = begins_trans c.args.search.now.queue.items c.reach.search.queue.items c.reach-in-reach.new.self.queue.items c.reach.invariant.begins step.begins;
      place = step.place;
      element = step.element;
      search = step.search;
      passed = step.full c.args.number c.reach.invariant.passed;
      dead = c.reach-in-reach.ensures.dead ∙ c.reach.invariant.dead;
    }

pub reach-smaller : goal.reach-smaller
reach-smaller g c =
    let longer : length c.reach-in-reach.new.self.queue.items ≡ length c.reach.search.queue.items + 1 = ap length c.in_ok-reach.ensures.queue ∙ length_push c.reach.search.queue.items c.find_place-place.result in
    let short : length c.reach-in-reach.new.self.queue.items ≤ (g.M.Matroid.count c.args.matroid.now) = queue_short (g.M.Matroid.count c.args.matroid.now) (g.M.Matroid.free c.args.matroid.now) (g.met.M.Matroid.laws c.args.matroid.now) c.args.k (own_of c.args.owner.now) c.reach-in-reach.new.self.dead c.reach-in-reach.new.self.reached c.reach-in-reach.new.self.queue.items c.reach-in-reach.new.self.back.items c.args.at (reach-preserved g c).search in
    omega arith

pub returns-clause-passed : goal.returns-clause-passed
returns-clause-passed g c =
    let below : c.index-element.result.now < (g.M.Matroid.count c.args.matroid.now) = subst (λ x. x < (g.M.Matroid.count c.args.matroid.now)) c.reach.invariant.element (c.reach.invariant.search.tree.inside c.args.at c.reach.invariant.place) in
    let answer = takes_plus (g.M.Matroid.count c.args.matroid.now) (g.M.Matroid.free c.args.matroid.now) (g.met.M.Matroid.laws c.args.matroid.now) (g.M.Matroid.keeps c.args.matroid.now) g.M.Matroid.members (kept (own_of c.args.owner.now) c.reach.search.reached c.args.number (g.M.Matroid.count c.args.matroid.now)) c.index-element.result.now c.item.result.now c.takes.result below (c.reach.invariant.filled.each c.args.number c.item.result.now c.item.ensures) c.takes.ensures in
    subst (λ x. IsFull (g.M.Matroid.count c.args.matroid.now) (g.M.Matroid.free c.args.matroid.now) (c.args.number + 1) (own_of c.args.owner.now) c.reach.search.reached x) (sym c.reach.invariant.element)
    (full_one_more (g.M.Matroid.count c.args.matroid.now) (g.M.Matroid.free c.args.matroid.now) (g.met.M.Matroid.laws c.args.matroid.now) c.args.k (own_of c.args.owner.now) c.reach.search.reached c.args.number c.index-element.result.now c.reach.invariant.passed (λ w. both_ways c.takes.result c.reach-test.false (answer.1 w)))
