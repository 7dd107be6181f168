use Rattle.std.proofs.Common.{arith}
use Rattle.std.specs.Prelude.{bit_or}
use Rattle.word_sides.proofs.WordLaws.{zip2_are}
use Rattle.word_sides.proofs.lanes.join_words.Goals as goal

pub returns : goal.returns
returns c = zip2_are bit_or c.loop-j.into c.args.into.now c.args.other.now (omega arith) (omega arith) (λ k l. c.loop-j.invariant.done k (omega arith))
