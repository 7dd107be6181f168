use Rattle.std.proofs.Common.{arith}
use Rattle.lucchesi_younger.proofs.dual.all_pieces.Goals as goal

pub returns : goal.returns
returns c = (c.levels.below, λ v. omega (arith, c.greatest-most.ensures.most v, c.levels-test.false), c.levels.invariant.built)
