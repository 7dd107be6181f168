use Rattle.std.proofs.Common.{◌≡◌, ◌+◌, ◌<◌, length, arith, ap, sym, ◌∙◌, refl}
use Rattle.std.specs.Prelude.{min}
use Rattle.flow_cuts.specs.Search.{unseen, mark_at}
use Rattle.flow_cuts.specs.Residual.{from_at, room_at}
use Rattle.flow_cuts.proofs.SearchTrees.{place_left, IsFilled-add, IsSearchForest-step, read_mark, seen_below}
use Rattle.flow_cuts.proofs.search.look.Goals as goal

pub add-requires-clause-place : goal.add-requires-clause-place
add-requires-clause-place c =
    let ms = c.args.tree.now.marks.items in
    let at = read_mark ms c.step_to-to.result c.index.result.now (omega arith) c.index.ensures in
    let un : (mark_at ms c.step_to-to.result).level ≡ unseen = ap (λ m. m.level) (sym at) ∙ c.if-index.true in
    let lt : c.step_to-to.result < length ms = omega arith in
    omega (arith, place_left (length ms) ms c.args.tree.now.queue.items c.args.tree.now.count c.step_to-to.result c.requires.filled lt un, c.requires.filled.queue_len)

pub returns-then-index-clause-filled : goal.returns-then-index-clause-filled
returns-then-index-clause-filled c =
    let ms = c.args.tree.now.marks.items in
    let lt : c.step_to-to.result < length ms = omega arith in
    let at = read_mark ms c.step_to-to.result c.index.result.now lt c.index.ensures in
    let un : (mark_at ms c.step_to-to.result).level ≡ unseen = ap (λ m. m.level) (sym at) ∙ c.if-index.true in
    let was : (mark_at ms c.step_from.result).level < unseen = rw c.step_from.ensures c.requires.from in
    let lt2 : c.step_from.result < length ms = seen_below ms c.step_from.result was in
    let from : c.index-from.result.now.level ≡ (mark_at ms c.step_from.result).level = ap (λ m. m.level) (read_mark ms c.step_from.result c.index-from.result.now lt2 c.index-from.ensures) in
    let low : (mark_at ms c.step_from.result).level < c.args.tree.now.count = c.requires.filled.low c.step_from.result was in
    let few : c.args.tree.now.count < length ms = place_left (length ms) ms c.args.tree.now.queue.items c.args.tree.now.count c.step_to-to.result c.requires.filled lt un in
    rw (c.add.ensures.marks, c.add.ensures.queue, c.add.ensures.count)
    (IsFilled-add (length ms) ms c.args.tree.now.queue.items c.args.tree.now.count c.step_to-to.result _ c.requires.filled lt un (omega arith) (omega arith))

pub returns-then-index-clause-forest : goal.returns-then-index-clause-forest
returns-then-index-clause-forest c =
    let ms = c.args.tree.now.marks.items in
    let lt : c.step_to-to.result < length ms = omega arith in
    let at = read_mark ms c.step_to-to.result c.index.result.now lt c.index.ensures in
    let un : (mark_at ms c.step_to-to.result).level ≡ unseen = ap (λ m. m.level) (sym at) ∙ c.if-index.true in
    let was : (mark_at ms c.step_from.result).level < unseen = rw c.step_from.ensures c.requires.from in
    let lt2 : c.step_from.result < length ms = seen_below ms c.step_from.result was in
    let from : c.index-from.result.now ≡ mark_at ms (from_at c.args.links.now c.args.step) =
    read_mark ms c.step_from.result c.index-from.result.now lt2 c.index-from.ensures ∙ ap (mark_at ms) c.step_from.ensures in
    let level : c.index-from.result.now.level + 1 ≡ (mark_at ms (from_at c.args.links.now c.args.step)).level + 1 = ap (λ m. m.level + 1) from in
    let narrow : c.min.result ≡ min (mark_at ms (from_at c.args.links.now c.args.step)).narrow (room_at c.args.links.now c.args.step) =
    c.min.ensures ∙ ap (λ m. min m.narrow c.step_room-room.result) from ∙ ap (min (mark_at ms (from_at c.args.links.now c.args.step)).narrow) c.step_room-room.ensures in
    let low = c.requires.filled.low (from_at c.args.links.now c.args.step) c.requires.from in
    let few = place_left (length ms) ms c.args.tree.now.queue.items c.args.tree.now.count c.step_to-to.result c.requires.filled lt un in
    rw c.add.ensures.marks
    (IsSearchForest-step c.args.links.now ms c.args.step c.step_to-to.result _ c.requires.link (omega arith) c.requires.from refl level narrow (sym c.step_to-to.ensures) lt un (omega arith))
