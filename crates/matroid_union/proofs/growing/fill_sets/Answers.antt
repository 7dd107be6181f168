use Rattle.std.proofs.Common.{◌≡◌, ◌<◌, ℕ, subst, arith}
use Rattle.matroid_union.specs.Parts.{own_of, kept}
use Rattle.matroid_union.specs.Growing.{AreFilled}
use Rattle.matroid_union.proofs.Filled.{front}
use Rattle.matroid_union.proofs.KeptSets.{front_room, fronts_none, fronts_add, fronts_spare, fronts_left, fronts_all}
use Rattle.matroid_union.proofs.growing.fill_sets.Goals as goal
use Rattle.matroid_union.proofs.growing.fill_sets.Goals.{in-Some+then-is_kept, in-Some+else-is_kept, in_default}

pub loop-i-init : goal.loop-i-init
loop-i-init g c = fronts_none (g.M.Matroid.count c.args.matroid.now) (g.M.Matroid.free c.args.matroid.now) (g.met.M.Matroid.laws c.args.matroid.now) (g.M.Matroid.keeps c.args.matroid.now) g.M.Matroid.members (own_of c.args.owner.now) c.args.reached.now 0 c.args.from c.args.k c.clear_sets.new.sets c.clear_sets.ensures

pub add-requires-clause-kept : goal.add-requires-clause-kept
add-requires-clause-kept g c = (c.loop-i.invariant.each c.in-Some.number c.item_mut.result.now c.item_mut.ensures.value).kept

pub add-requires-clause-stays : goal.add-requires-clause-stays
add-requires-clause-stays g c =
    front_room (g.M.Matroid.count c.args.matroid.now) (g.M.Matroid.free c.args.matroid.now) (g.met.M.Matroid.laws c.args.matroid.now) (g.M.Matroid.keeps c.args.matroid.now) g.M.Matroid.members (own_of c.args.owner.now) c.args.reached.now c.in-Some.number c.args.from c.loop-i.i c.item_mut.result.now c.is_kept.result (omega arith) c.is_kept.ensures c.if-is_kept.true (c.requires.packing.parts c.in-Some.number (c.requires.packing.below c.loop-i.i c.in-Some.number c.in-Some.is)) (c.loop-i.invariant.each c.in-Some.number c.item_mut.result.now c.item_mut.ensures.value)

pub loop-i-preserved : goal.loop-i-preserved
loop-i-preserved g c =
    let below : c.loop-i.i < g.M.Matroid.count c.args.matroid.now = omega arith in
    elim c.match-owner-i.branch [
      | in-Some+then-is_kept w ↦ fronts_add (g.M.Matroid.count c.args.matroid.now) (g.M.Matroid.free c.args.matroid.now) (g.met.M.Matroid.laws c.args.matroid.now) (g.M.Matroid.keeps c.args.matroid.now) g.M.Matroid.members (own_of c.args.owner.now) c.args.reached.now w.in-Some.number c.args.from c.args.k c.loop-i.i c.loop-i.sets c.match-owner-i.sets w.item_mut.result.now w.add.new.set w.is_kept.result w.sets-is below w.in-Some.is w.is_kept.ensures w.if-is_kept.true w.item_mut.ensures.value w.add.ensures.kept w.add.ensures.added c.loop-i.invariant
      | in-Some+else-is_kept w ↦ fronts_left (g.M.Matroid.count c.args.matroid.now) (g.M.Matroid.free c.args.matroid.now) (g.met.M.Matroid.laws c.args.matroid.now) (g.M.Matroid.keeps c.args.matroid.now) g.M.Matroid.members (own_of c.args.owner.now) c.args.reached.now w.in-Some.number c.args.from c.args.k c.loop-i.i c.loop-i.sets c.match-owner-i.sets w.is_kept.result w.sets-is w.in-Some.is w.is_kept.ensures w.if-is_kept.false c.loop-i.invariant
      | in_default w ↦ fronts_spare (g.M.Matroid.count c.args.matroid.now) (g.M.Matroid.free c.args.matroid.now) (g.met.M.Matroid.laws c.args.matroid.now) (g.M.Matroid.keeps c.args.matroid.now) g.M.Matroid.members (own_of c.args.owner.now) c.args.reached.now 0 c.args.from c.args.k c.loop-i.i c.loop-i.sets c.match-owner-i.sets w.sets-is w.in_default.is c.loop-i.invariant
    ]

pub returns : goal.returns
returns g c =
    let end : c.loop-i.i ≡ g.M.Matroid.count c.args.matroid.now = omega arith in
    fronts_all (g.M.Matroid.count c.args.matroid.now) (g.M.Matroid.free c.args.matroid.now) (g.met.M.Matroid.laws c.args.matroid.now) (g.M.Matroid.keeps c.args.matroid.now) g.M.Matroid.members (own_of c.args.owner.now) c.args.reached.now 0 c.args.from c.args.k c.loop-i.sets
    (subst (λ i. AreFilled (g.M.Matroid.keeps c.args.matroid.now) g.M.Matroid.members (g.M.Matroid.count c.args.matroid.now) c.args.k (λ (p : ℕ). front (kept (own_of c.args.owner.now) c.args.reached.now p c.args.from) i) c.loop-i.sets) end c.loop-i.invariant)
