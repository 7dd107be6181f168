use Rattle.std.proofs.Common.{[]}
use Rattle.std.proofs.lemmas.Option.{slice_get-get_or}
use Rattle.certificate_text.specs.Taking.{slots_by}
use Rattle.certificate_text.proofs.WriteLaws.{item-more, items-all}
use Rattle.certificate_text.proofs.tables.slots.Goals as goal

pub loop-piece-preserved : goal.loop-piece-preserved
loop-piece-preserved c =
    let row = c.args.row.now in
    let at = c.loop-piece.piece-index in
    item-more (slots_by c.args.m) row at _ [] c.loop-piece.slots.items c.push_piece.new.slots.items (slice_get-get_or row at _ c.loop-piece-test.true) c.loop-piece.invariant c.in_ok-push_piece.ensures

pub returns : goal.returns
returns c = items-all (slots_by c.args.m) c.args.row.now c.loop-piece.piece-index [] c.loop-piece.slots.items c.loop-piece-test.false c.loop-piece.invariant
