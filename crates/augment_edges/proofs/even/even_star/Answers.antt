use Rattle.std.proofs.Common.{◌∙◌, arith}
use Rattle.augment_edges.proofs.EvenLaws.{made_even-sum}
use Rattle.augment_edges.proofs.even.even_star.Goals as goal

pub invariant_of-result : goal.invariant_of-result
invariant_of-result c =
    let made = c.make_even.ensures in
    record { long = made.long ∙ c.args.star.long; few = omega (arith, (made_even-sum c.args.star.count c.make_even.new.counts made).1, c.requires) }
