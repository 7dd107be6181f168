use Rattle.std.proofs.Common.{◌≡◌, ◌<◌, subst, arith}
use Rattle.matroid_union.specs.Parts.{own_of, kept}
use Rattle.matroid_union.specs.Growing.{IsFilled}
use Rattle.matroid_union.proofs.Filled.{front}
use Rattle.matroid_union.proofs.KeptSets.{front_empty, front_room, front_add, front_pass, front_all}
use Rattle.matroid_union.proofs.growing.fill_set.Goals as goal
use Rattle.matroid_union.proofs.growing.fill_set.Goals.{then-is_kept, else-is_kept}

pub loop-i-init : goal.loop-i-init
loop-i-init g c =
    front_empty (g.M.Matroid.count c.args.matroid.now) (g.M.Matroid.free c.args.matroid.now) (g.met.M.Matroid.laws c.args.matroid.now) (g.M.Matroid.keeps c.args.matroid.now) g.M.Matroid.members (own_of c.args.owner.now) c.args.reached.now c.args.number c.args.from c.clear.new.set c.clear.ensures.kept c.clear.ensures.none

pub add-requires-clause-stays : goal.add-requires-clause-stays
add-requires-clause-stays g c =
    front_room (g.M.Matroid.count c.args.matroid.now) (g.M.Matroid.free c.args.matroid.now) (g.met.M.Matroid.laws c.args.matroid.now) (g.M.Matroid.keeps c.args.matroid.now) g.M.Matroid.members (own_of c.args.owner.now) c.args.reached.now c.args.number c.args.from c.loop-i.i c.loop-i.set c.is_kept.result (omega arith) c.is_kept.ensures c.if-is_kept.true c.requires.whole c.loop-i.invariant

pub loop-i-preserved : goal.loop-i-preserved
loop-i-preserved g c =
    let below : c.loop-i.i < g.M.Matroid.count c.args.matroid.now = omega arith in
    elim c.if-is_kept.branch [
      | then-is_kept w ↦ front_add (g.M.Matroid.count c.args.matroid.now) (g.M.Matroid.free c.args.matroid.now) (g.met.M.Matroid.laws c.args.matroid.now) (g.M.Matroid.keeps c.args.matroid.now) g.M.Matroid.members (own_of c.args.owner.now) c.args.reached.now c.args.number c.args.from c.loop-i.i c.loop-i.set w.add.new.set c.if-is_kept.set c.is_kept.result w.set-is below c.is_kept.ensures w.if-is_kept.true c.loop-i.invariant w.add.ensures.kept w.add.ensures.added
      | else-is_kept w ↦ front_pass (g.M.Matroid.count c.args.matroid.now) (g.M.Matroid.free c.args.matroid.now) (g.met.M.Matroid.laws c.args.matroid.now) (g.M.Matroid.keeps c.args.matroid.now) g.M.Matroid.members (own_of c.args.owner.now) c.args.reached.now c.args.number c.args.from c.loop-i.i c.loop-i.set c.if-is_kept.set c.is_kept.result w.set-is c.is_kept.ensures w.if-is_kept.false c.loop-i.invariant
    ]

pub returns : goal.returns
returns g c =
    let end : c.loop-i.i ≡ g.M.Matroid.count c.args.matroid.now = omega arith in
    front_all (g.M.Matroid.count c.args.matroid.now) (g.M.Matroid.free c.args.matroid.now) (g.met.M.Matroid.laws c.args.matroid.now) (g.M.Matroid.keeps c.args.matroid.now) g.M.Matroid.members (own_of c.args.owner.now) c.args.reached.now c.args.number c.args.from c.loop-i.set
    (subst (λ i. IsFilled (g.M.Matroid.keeps c.args.matroid.now) g.M.Matroid.members (g.M.Matroid.count c.args.matroid.now) (front (kept (own_of c.args.owner.now) c.args.reached.now c.args.number c.args.from) i) c.loop-i.set) end c.loop-i.invariant)
