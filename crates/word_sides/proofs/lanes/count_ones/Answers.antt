use Rattle.std.proofs.Common.{◌+◌, ◌*◌, arith}
use Rattle.word_sides.proofs.CountLaws.{ones-more, ones-le}
use Rattle.word_sides.proofs.lanes.count_ones.Goals as goal

pub overflow_add-ones : goal.overflow_add-ones
overflow_add-ones c = omega (arith, ones-more c.args.words.now c.loop-word.word-index (c.type_inv.words c.loop-word.word-index), ones-le (64 * (c.loop-word.word-index + 1)) c.args.words.now)

pub loop-word-preserved : goal.loop-word-preserved
loop-word-preserved c = omega (arith, ones-more c.args.words.now c.loop-word.word-index (c.type_inv.words c.loop-word.word-index))
