use Rattle.std.proofs.Common.{◌≡◌, false, refl, length, sym, subst, ◌∙◌, arith}
use Rattle.std.specs.Prelude.{slice_set}
use Rattle.std.proofs.lemmas.Bool.{both_ways}
use Rattle.std.proofs.lemmas.Option.{get_or_from_slice_get}
use Rattle.dicut_lattice.specs.Tight.{TightValue}
use Rattle.lucchesi_younger.specs.Kept.{AllKept}
use Rattle.lucchesi_younger.specs.Marks.{AreMarks}
use Rattle.lucchesi_younger.specs.Spent.{IsRaised}
use Rattle.lucchesi_younger.proofs.Costs.{dearer-all, raised-free}
use Rattle.lucchesi_younger.proofs.raise.raise_arc.Goals as goal

pub returns-then-not-item-clause-kept : goal.returns-then-not-item-clause-kept
returns-then-not-item-clause-kept c =
    let g = c.args.graph.now in
    let w = c.args.work.now in
    let marked = get_or_from_slice_get c.args.held.now.taken c.args.number c.item.result.now false c.item.ensures in
    let marks = subst (λ (t : TightValue). AreMarks (length t.graph.lines) t.join c.args.held.now.taken) c.requires.held c.args.held.now.marks in
    let kept = dearer-all g w c.requires.kept c.args.number c.requires.number c.args.cost c.requires.more (λ i. both_ways c.item.result.now c.if-not-item.true (sym marked ∙ marks.all c.args.number i)) in
    let same : c.raise_free.new.work ≡ record { join = w.join; costs = slice_set w.costs c.args.number c.args.cost; potential = w.potential } =
    (λ t. record { join = c.raise_free.ensures.join t; costs = c.raise_free.ensures.costs t; potential = c.raise_free.ensures.potential t }) in
    subst (λ x. AllKept g x) (sym same) kept

pub returns-then-not-item-clause-raised : goal.returns-then-not-item-clause-raised
returns-then-not-item-clause-raised c =
    subst (λ new. IsRaised c.args.number c.args.cost c.args.work.now.costs new false) (sym c.raise_free.ensures.costs)
    (raised-free c.args.graph.now c.args.work.now c.requires.kept c.args.number c.requires.number c.args.cost c.requires.more)

pub units-init : goal.units-init
units-init c =
    let is = get_or_from_slice_get c.args.work.now.costs c.args.number c.item-unit.result.now 0 c.item-unit.ensures in
    let marked = get_or_from_slice_get c.args.held.now.taken c.args.number c.item.result.now false c.item.ensures in
    let marks = subst (λ (t : TightValue). AreMarks (length t.graph.lines) t.join c.args.held.now.taken) c.requires.held c.args.held.now.marks in
    record {
      kept = c.requires.kept;
      here = is;
      others = λ j ne. refl;
      sums = omega arith;
      from = omega arith;
      join = refl;
      held = refl;
      taken = marks.each c.args.number (marked ∙ c.if-not-item.false);
    }

pub returns-clause-raised : goal.returns-clause-raised
returns-clause-raised c =
    let is = get_or_from_slice_get c.args.work.now.costs c.args.number c.item-unit.result.now 0 c.item-unit.ensures in
    let end = c.units.auto.unit-end in
    let u = c.units.invariant in
    let more = c.requires.more in
    let all : c.units.unit ≡ c.args.cost = omega arith in
    record {
      others = u.others;
      most = omega (arith, u.here);
      sums = omega (arith, u.here, u.sums);
      rose = tt;
      done = u.here ∙ all;
    }
