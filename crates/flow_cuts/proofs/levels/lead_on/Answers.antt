use Rattle.std.proofs.Common.{◌≡◌, ◌+◌, ◌<◌, ℕ, List, get_or, length, arith, ap, sym, ◌∙◌, refl}
use Rattle.std.specs.Prelude.{min, slice_index}
use Rattle.flow_cuts.specs.declared.network.Step.{Step}
use Rattle.flow_cuts.specs.declared.search.Mark.{Mark}
use Rattle.flow_cuts.specs.Residual.{room_at}
use Rattle.flow_cuts.specs.Search.{mark_at, no_mark, no_step, row_at}
use Rattle.flow_cuts.proofs.SearchTrees.{any_default}
use Rattle.flow_cuts.proofs.RisingWays.{IsNarrowWay-on}
use Rattle.flow_cuts.proofs.levels.lead_on.Goals as goal

pub returns-then-marks-to-clause-way : goal.returns-then-marks-to-clause-way
returns-then-marks-to-clause-way c = λ inside way.
    let ms = c.args.marks.now in
    let j : ℕ = slice_index c.loop-next.next c.args.v in
    let s : Step = get_or c.row-row.result.now j no_step in
    let own : get_or (row_at c.args.steps.now c.args.v) j s ≡ s = ap (λ r. get_or r j s) (sym c.row-row.ensures) ∙ any_default c.row-row.result.now j s no_step (omega arith) in
    let place : j < length (row_at c.args.steps.now c.args.v) = let e = ap length c.row-row.ensures in omega arith in
    let leads = c.requires.network.leads c.args.v j s place own in
    let w : ℕ = c.step_to-to.result in
    let from : get_or ms c.args.v (record { level = 0; via = no_step; narrow = 0 }) ≡ mark_at ms c.args.v = any_default ms c.args.v _ _ c.requires.node in
    let level = ap (λ m. m.level) from in
    let narrow = ap (λ m. min m.narrow c.step_room-room.result) from in
    let room : 0 < room_at c.args.links.now s = let e = c.step_room-room.ensures in omega (arith, c.if-room-gt0.true) in
    let lt : w < length ms = omega (arith, c.requires.network.to s leads.0, c.step_to-to.ensures) in
    let there : (mark_at ms w).level ≡ (mark_at ms c.args.v).level + 1 =
    ap (λ m. m.level) (sym (any_default ms w (record { level = 0; via = no_step; narrow = 0 }) no_mark lt)) ∙
    ap (λ (x : List Mark). (get_or {A = Mark} x w (record { level = 0; via = no_step; narrow = 0 })).level) (sym c.loop-next.invariant.marks) ∙ c.if-marks-to.true ∙ ap (λ l. l + 1) level in
    let least : c.min.result ≡ min (mark_at ms c.args.v).narrow (room_at c.args.links.now s) =
    c.min.ensures ∙ narrow ∙ ap (min (mark_at ms c.args.v).narrow) c.step_room-room.ensures in
    rw c.loop-next.invariant.marks
    (IsNarrowWay-on c.args.links.now inside ms (mark_at ms c.args.v).level c.args.v w s _ way leads.0 leads.1 (sym c.step_to-to.ensures) room lt there (ap (λ l. l + 1) level) refl least)
