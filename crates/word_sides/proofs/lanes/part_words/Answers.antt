use Rattle.std.proofs.Common.{arith}
use Rattle.word_sides.specs.Words.{without}
use Rattle.word_sides.proofs.WordLaws.{zip2_are}
use Rattle.word_sides.proofs.lanes.part_words.Goals as goal

pub returns-clause-x : goal.returns-clause-x
returns-clause-x c = zip2_are without c.loop-j.x c.args.x.now c.args.y.now (omega arith) (omega arith) (λ k l. c.loop-j.invariant.x_done k (omega arith))

pub returns-clause-y : goal.returns-clause-y
returns-clause-y c = zip2_are without c.loop-j.y c.args.y.now c.args.x.now (omega arith) (omega arith) (λ k l. c.loop-j.invariant.y_done k (omega arith))
