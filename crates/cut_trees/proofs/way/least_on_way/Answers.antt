use Rattle.std.proofs.Common.{◌≡◌, arith, subst}
use Rattle.cut_trees.proofs.WayLaws.{IsFollowed, way_done}
use Rattle.cut_trees.proofs.way.least_on_way.Goals as goal

pub returns : goal.returns
returns c = λ u apart ordered reached.
    let all : c.loop-i.i ≡ 0 = omega arith in
    way_done apart ordered reached (subst (λ i. IsFollowed c.args.pairs.now c.args.v i c.loop-i.at c.loop-i.least) all c.loop-i.invariant)
