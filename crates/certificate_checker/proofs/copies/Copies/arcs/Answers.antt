use Rattle.std.proofs.Common.{◌+◌, ◌<◌, length, take, sym, ◌∙◌, subst, arith}
use Rattle.std.proofs.lemmas.List.{get_or_read}
use Rattle.certificate_checker.specs.Copies.{Writes}
use Rattle.certificate_checker.proofs.CopyLaws.{writes-none, writes-push}
use Rattle.certificate_checker.proofs.copies.Copies.arcs.Goals as goal
use Rattle.certificate_checker.proofs.copies.Copies.arcs.Goals.{then-cap-gt0+in_ok-push, else-cap-gt0}

pub loop-place-preserved : goal.loop-place-preserved
loop-place-preserved c =
    let me = c.args.self.now in
    let place = c.loop-place.place in
    let short : place < length me.table.items = (let test = c.loop-place-test.true in let end = c.len-place-end.ensures in omega (arith, me.table.ok.0)) in
    let read = get_or_read me.table.items place c.index-cap.result.now short c.index-cap.ensures 0 in
    elim c.if-cap-gt0.branch [
      | then-cap-gt0+in_ok-push w ↦ subst (λ arcs. Writes me.n arcs.items (take (place + 1) me.table.items)) (sym w.arcs-is) (subst (λ arcs. Writes me.n arcs (take (place + 1) me.table.items)) (sym w.in_ok-push.ensures.items) (writes-push me.n me.table.items place c.requires me.long short c.loop-place.arcs.items c.index-cap.result.now read c.loop-place.invariant))
      | else-cap-gt0 w ↦ subst (λ arcs. Writes me.n arcs.items (take (place + 1) me.table.items)) (sym w.arcs-is) (writes-none me.n me.table.items place c.requires me.long short c.loop-place.arcs.items (sym read ∙ omega (arith, w.if-cap-gt0.false)) c.loop-place.invariant)
    ]
