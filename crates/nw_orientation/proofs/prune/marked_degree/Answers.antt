use Rattle.std.proofs.Common.{◌≡◌, ◌&&◌, false, get_or, sym, ap, ◌∙◌, arith}
use Rattle.std.proofs.lemmas.Bool.{and_from, and_left, and_right}
use Rattle.graph_core.specs.Graph.{no_line}
use Rattle.graph_core.proofs.Counting.{weight}
use Rattle.nw_orientation.specs.Moved.{touches}
use Rattle.nw_orientation.proofs.Weaving.{count-chosen_next}
use Rattle.nw_orientation.proofs.prune.marked_degree.Goals.{then-marks-i+then-touches, else-marks-i, else-marks-i-via-then-marks-i+else-touches, else-marks-i-via-else-marks-i}
use Rattle.nw_orientation.proofs.prune.marked_degree.Goals as goal

pub loop-i-preserved : goal.loop-i-preserved
loop-i-preserved c =
    let i = c.loop-i.i in
    let mark = get_or c.args.marks.now i false in
    let here = touches c.args.v (get_or c.args.lines.now i no_line) in
    let step = count-chosen_next (touches c.args.v) c.args.lines.now c.args.marks.now i no_line false (omega arith) (omega arith) in
    elim c.if-marks-i.branch [
      | then-marks-i+then-touches w ↦
          let one : weight (mark && here) ≡ 1 = ap weight (and_from mark here w.if-marks-i.true (sym w.touches.ensures ∙ w.if-touches.true)) in
          record { counted = omega arith; few = omega arith }
      | else-marks-i w ↦ elim w.else-marks-i.branch [
        | else-marks-i-via-then-marks-i+else-touches w' ↦
            let none : weight (mark && here) ≡ 0 = ap weight (and_right mark here (sym w'.touches.ensures ∙ w'.if-touches.false)) in
            record { counted = omega arith; few = omega arith }
        | else-marks-i-via-else-marks-i w' ↦
            let none : weight (mark && here) ≡ 0 = ap weight (and_left mark here w'.if-marks-i.false) in
            record { counted = omega arith; few = omega arith }
      ]
    ]
