use Rattle.std.proofs.Common.{◌≡◌, ◌<◌, ◌≤◌, [], length, get_or, sym, ap, ◌∙◌, subst, arith, ⊎_elim}
use Rattle.std.proofs.lemmas.Bool.{cases_eq}
use Rattle.std.proofs.lemmas.List.Elements.{All-from_get_or}
use Rattle.std.proofs.lemmas.Option.{get_or_from_slice_get}
use Rattle.forest_cover.specs.Dense.{demand}
use Rattle.forest_cover.proofs.dense.densest.Goals as goal
use Rattle.forest_cover.proofs.dense.densest.Goals.{then-demand_of, else-demand_of}

pub loop-i-preserved : goal.loop-i-preserved
loop-i-preserved c =
    let ls = c.args.graph.now.lines in
    let P = c.args.classes.now in
    let i = c.loop-i.i in
    let best = c.loop-i.best in
    let inv = c.loop-i.invariant in
    let here : demand ls (get_or P i []) ≡ c.demand_of.result = ap (demand ls) (get_or_from_slice_get P i c.item.result.now [] c.item.ensures) ∙ sym c.demand_of.ensures in
    let there : demand ls (get_or P best []) ≡ c.demand_of-in-loop-i.result = ap (demand ls) (get_or_from_slice_get P best c.item-in-loop-i.result.now [] c.item-in-loop-i.ensures) ∙ sym c.demand_of-in-loop-i.ensures in
    let inside : i < length P = omega (arith, c.loop-i-test.true) in
    elim c.if-demand_of.branch [
      | then-demand_of w ↦ (
          let more = w.if-demand_of.true in
          let now = w.best-is in
          record {
            below = rw now inside;
            most = λ k l. subst (λ b. demand ls (get_or P k []) ≤ demand ls (get_or P b [])) (sym now)
                (⊎_elim (λ e. subst (λ x. demand ls (get_or P x []) ≤ demand ls (get_or P i [])) (sym e) (omega arith)) (λ ne. let le = inv.most k (omega arith) in omega arith) (cases_eq k i));
          })
      | else-demand_of w ↦ (
          let more = w.if-demand_of.false in
          let now = w.best-is in
          record {
            below = rw now inv.below;
            most = λ k l. subst (λ b. demand ls (get_or P k []) ≤ demand ls (get_or P b [])) (sym now)
                (⊎_elim (λ e. subst (λ x. demand ls (get_or P x []) ≤ demand ls (get_or P best [])) (sym e) (omega arith)) (λ ne. inv.most k (omega arith)) (cases_eq k i));
          })
    ]

pub returns : goal.returns
returns c =
    let ls = c.args.graph.now.lines in
    let P = c.args.classes.now in
    record {
      below = c.loop-i.invariant.below;
      most = All-from_get_or (λ X. demand ls X ≤ demand ls (get_or P c.loop-i.best [])) P [] (λ k l. c.loop-i.invariant.most k (omega arith));
    }
