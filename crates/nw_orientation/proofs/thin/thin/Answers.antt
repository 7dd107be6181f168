use Rattle.std.proofs.Common.{◌≡◌, ◌++◌, false, length, take, drop, sym, ap, ◌∙◌, arith, subst}
use Rattle.std.proofs.lemmas.List.{length-replicate, with_items_is}
use Rattle.nw_orientation.specs.Thin.{IsThin}
use Rattle.nw_orientation.proofs.ThinLaws.{thin-none, thin-more}
use Rattle.nw_orientation.proofs.thin.thin.Goals as goal

pub loop-forest-init : goal.loop-forest-init
loop-forest-init c =
    thin-none c.args.lines.now c.in_ok-marks.marks.items (ap length (c.in_ok-marks.ensures.items_if_clones_equal (λ y h. h)) ∙ length-replicate (length c.args.lines.now) false)

pub loop-forest-preserved : goal.loop-forest-preserved
loop-forest-preserved c =
    let old = c.loop-forest.marks in
    let new = c.grow_forest.new.marks in
    let long : length new ≡ length old.items = omega (arith, c.grow_forest.auto.marks, ap length c.deref_mut.ensures.value) in
    let whole : take old.len (new ++ drop (length new) old.items) ≡ new = with_items_is old new (long ∙ sym old.ok.0) in
    rw whole (thin-more c.loop-forest.forest c.args.lines.now old.items new c.loop-forest.invariant (rw c.deref_mut.ensures.value at c.in_ok-grow_forest.ensures))

pub returns : goal.returns
returns c =
    let all : c.loop-forest.forest ≡ c.args.c = omega arith in
    subst (λ i. IsThin i c.args.lines.now c.loop-forest.marks.items) all c.loop-forest.invariant
