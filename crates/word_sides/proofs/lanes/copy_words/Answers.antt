use Rattle.std.proofs.Common.{arith}
use Rattle.std.proofs.lemmas.List.{ext_get_or}
use Rattle.word_sides.proofs.lanes.copy_words.Goals as goal

pub returns : goal.returns
returns c = ext_get_or 0 c.loop-j.into c.args.other.now (omega arith) (λ k l. c.loop-j.invariant k (omega arith))
