use Rattle.std.proofs.Common.{◌≡◌, ◌<◌, ℕ, List, length, arith, ap, sym, ◌∙◌, subst, refl}
use Rattle.flow_cuts.specs.declared.network.Step.{Step}
use Rattle.flow_cuts.specs.declared.search.Mark.{Mark}
use Rattle.flow_cuts.specs.Search.{mark_at, no_mark, no_step}
use Rattle.flow_cuts.proofs.SearchTrees.{any_default, set_off}
use Rattle.flow_cuts.proofs.OpenWays.{via_at, via_is}
use Rattle.flow_cuts.proofs.RisingWays.{IsOpenWay-narrow, narrow_some, comes_from_step, IsDraining, IsDraining-back}
use Rattle.flow_cuts.proofs.levels.drain.Goals as goal

abbrev as_read : Mark
as_read = record { level = 0; via = no_step; narrow = 0 }

pub push_way-requires-clause-way : goal.push_way-requires-clause-way
push_way-requires-clause-way c =
    let ms = c.loop-sent.marks in
    let v : ℕ = c.loop-sent.v in
    let d = c.loop-sent.invariant.state in
    let read = ap (λ m. m.narrow) (any_default ms v as_read no_mark (omega (arith, d.node, d.levelled.len))) in
    IsOpenWay-narrow c.loop-sent.links c.args.course.now.inside ms c.min-amount.result (mark_at ms v).level v d.way (omega (arith, c.min-amount.ensures, read))

pub loop-sent-smaller-then-has : goal.loop-sent-smaller-then-has
loop-sent-smaller-then-has c =
    let ms = c.loop-sent.marks in
    let v : ℕ = c.loop-sent.v in
    let d = c.loop-sent.invariant.state in
    let read = ap (λ m. m.narrow) (any_default ms v as_read no_mark (omega (arith, d.node, d.levelled.len))) in
    let some = narrow_some c.loop-sent.links c.args.course.now.inside ms (mark_at ms v).level v d.way in
    omega (arith, c.min-amount.ensures, read, some, c.loop-sent.invariant.root, c.saturating_sub.ensures)

pub step_from-from-requires : goal.step_from-from-requires
step_from-from-requires c =
    let M = c.lead_on.new.marks in
    let v : ℕ = c.loop-sent.v in
    let P : List Mark → Type 0 = λ ms. IsDraining c.args.course.now.inside c.loop-sent.links ms v in
    let d : IsDraining c.args.course.now.inside c.loop-sent.links M v = subst P (sym c.in_default.ensures.none) c.loop-sent.invariant.state in
    let lt : v < length M = omega (arith, d.node, d.levelled.len) in
    let read = ap (λ m. m.level) (any_default M v as_read no_mark lt) in
    (comes_from_step c.loop-sent.links c.args.course.now.inside M v (via_at M v) d.way (λ e. c.if-marks-v-eq0.false (read ∙ e)) (via_is M v lt)).link

pub loop-sent-preserved : goal.loop-sent-preserved
loop-sent-preserved c =
    let M = c.lead_on.new.marks in
    let v : ℕ = c.loop-sent.v in
    let P : List Mark → Type 0 = λ ms. IsDraining c.args.course.now.inside c.loop-sent.links ms v in
    let d : IsDraining c.args.course.now.inside c.loop-sent.links M v = subst P (sym c.in_default.ensures.none) c.loop-sent.invariant.state in
    let lt : v < length M = omega (arith, d.node, d.levelled.len) in
    let read = ap (λ m. m.level) (any_default M v as_read no_mark lt) in
    let s : Step = via_at M v in
    let back = comes_from_step c.loop-sent.links c.args.course.now.inside M v s d.way (λ e. c.if-marks-v-eq0.false (read ∙ e)) (via_is M v lt) in
    let at_root : (mark_at M c.args.root).level ≡ 0 = ap (λ (ms : List Mark). (mark_at ms c.args.root).level) c.in_default.ensures.none ∙ c.loop-sent.invariant.root in
    let ends = c.loop-sent.invariant.ends in
    record {
      fits = c.loop-sent.invariant.fits;
      ends = ends;
      sums = c.loop-sent.invariant.sums;
      next = omega (arith, c.in_default.ensures.next, c.loop-sent.invariant.state.levelled.len);
      state = rw c.step_from-from.ensures
          (IsDraining-back c.args.course.now.inside c.loop-sent.links M v s _
          (λ t link. omega (arith, ends.from t, c.requires.network.from t (omega (arith, link, ends.len)))) d back refl);
      root = ap (λ m. m.level) (set_off M v c.args.root _ lt (λ e. c.if-marks-v-eq0.false (read ∙ ap (λ x. (mark_at M x).level) (sym e) ∙ at_root))) ∙ at_root;
      most = c.loop-sent.invariant.most;
      flow = c.loop-sent.invariant.flow;
    }
