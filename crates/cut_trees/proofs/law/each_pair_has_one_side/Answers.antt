use Rattle.cut_trees.proofs.PairSides.{pair_has_side}
use Rattle.cut_trees.proofs.law.each_pair_has_one_side.Goals as goal

pub returns : goal.returns
returns c = pair_has_side
