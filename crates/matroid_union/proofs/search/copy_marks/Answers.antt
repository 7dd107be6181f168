use Rattle.std.proofs.Common.{arith}
use Rattle.matroid_union.proofs.Sizes.{same_marks}
use Rattle.matroid_union.proofs.search.copy_marks.Goals as goal

pub returns : goal.returns
returns c = same_marks c.loop-i.to c.args.from.now c.loop-i.invariant.long (λ k l. c.loop-i.invariant.same k (omega arith))
