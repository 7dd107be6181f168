use Rattle.std.proofs.Common.{◌≡◌, ◌∙◌, ◌+◌, ◌≤◌, ap, take, get_or, arith}
use Rattle.std.specs.List.{concat}
use Rattle.graph_core.specs.Picked.{occurrences, mark}
use Rattle.certificate_checker.proofs.MarkLaws.{row-more, row-more-le}
use Rattle.certificate_checker.proofs.marks.mark_rows.Goals as goal

pub loop-row-preserved : goal.loop-row-preserved
loop-row-preserved c = λ k.
    let once : mark c.mark_row.new.marks k ≡ mark c.loop-row.marks k + occurrences k c.as_slice.result.now = c.if-not-mark_row.ensures.once k in
    let known : mark c.loop-row.marks k ≡ mark c.args.marks.now k + occurrences k (concat (take c.loop-row.row-index c.args.rows.now)) = c.loop-row.invariant k in
    let more = row-more k c.loop-row.row-index c.args.rows.now c.row-item.result c.loop-row-test.true in
    let same : occurrences k c.as_slice.result.now ≡ occurrences k (get_or c.args.rows.now c.loop-row.row-index c.row-item.result) = ap (occurrences k) (c.as_slice.ensures ∙ c.row-item.is) in
    omega arith

pub returns-then-not-mark_row-clause-twice : goal.returns-then-not-mark_row-clause-twice
returns-then-not-mark_row-clause-twice c =
    let (x, below, twice) = c.if-not-mark_row.ensures.twice in
    let two : 2 ≤ mark c.loop-row.marks x + occurrences x c.as_slice.result.now = twice in
    let known : mark c.loop-row.marks x ≡ mark c.args.marks.now x + occurrences x (concat (take c.loop-row.row-index c.args.rows.now)) = c.loop-row.invariant x in
    let more = row-more-le x c.loop-row.row-index c.args.rows.now c.row-item.result c.loop-row-test.true in
    let same : occurrences x c.as_slice.result.now ≡ occurrences x (get_or c.args.rows.now c.loop-row.row-index c.row-item.result) = ap (occurrences x) (c.as_slice.ensures ∙ c.row-item.is) in
    (x, omega arith, omega arith)
