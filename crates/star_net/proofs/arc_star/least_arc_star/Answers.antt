use Rattle.std.proofs.Common.{length, sum, ap, sym, ◌∙◌, arith}
use Rattle.problem_defs.specs.declared.cert.Way.TheVariants.{Entering, Leaving}
use Rattle.star_net.proofs.ArcStars.{lowered_tight}
use Rattle.star_net.proofs.TightFamilies.{few_counts}
use Rattle.star_net.proofs.arc_star.least_arc_star.Goals as goal

pub invariant_of-star : goal.invariant_of-star
invariant_of-star c =
    let into = c.in_ok-into.ensures in
    let out = c.in_ok-out.ensures in
    let names = ap (λ g. length g.names) c.in_ok-copy.ensures in
    record {
      into_long = ap length c.from_vec.ensures ∙ into.long ∙ sym names;
      into_few = omega (arith, ap sum c.from_vec.ensures, few_counts c.args.k c.in_ok-into.into.counts.items into.most c.requires.k, into.long, c.requires.size.nodes);
      out_long = ap length c.from_vec-2.ensures ∙ out.long ∙ sym names;
      out_few = omega (arith, ap sum c.from_vec-2.ensures, few_counts c.args.k c.in_ok-out.out.counts.items out.most c.requires.k, out.long, c.requires.size.nodes);
    }

pub balance-requires-clause-tight : goal.balance-requires-clause-tight
balance-requires-clause-tight c = lowered_tight Entering c.in_ok-copy.ensures c.from_vec.ensures c.in_ok-into.ensures

pub balance-requires-else-total_count-clause-tight : goal.balance-requires-else-total_count-clause-tight
balance-requires-else-total_count-clause-tight c = lowered_tight Leaving c.in_ok-copy.ensures c.from_vec-2.ensures c.in_ok-out.ensures
