use Rattle.std.proofs.Common.{length, arith}
use Rattle.tree_packing.proofs.Start.{crossed-whole}
use Rattle.tree_packing.proofs.first.first_partition.Goals as goal

pub returns-then-bound_of : goal.returns-then-bound_of
returns-then-bound_of c =
    let g = c.args.graph.now in
    let halves = c.in_ok-halves.ensures in
    let single = c.in_ok-single.ensures.singles in
    record {
      dual = halves.dual;
      singles = omega (arith, c.bound_of.ensures, c.bound_of-2.ensures, c.if-bound_of.true);
      nodes = halves.nodes;
      apart = λ X proper none. let some = crossed-whole (length g.names) g.lines c.in_ok-whole.whole c.in_ok-whole.ensures (omega (arith, c.len.ensures, c.if-len-ge2.false)) X proper in absurd (omega arith);
    }

pub returns : goal.returns
returns c =
    let g = c.args.graph.now in
    let halves = c.in_ok-halves.ensures.nodes in
    let single = c.in_ok-single.ensures in
    record {
      dual = single.dual;
      singles = single.singles;
      nodes = λ X v long x. let least = halves X v long x in omega (arith, c.bound_of.ensures, c.bound_of-2.ensures, c.if-bound_of.false);
      apart = λ X proper none. let some = crossed-whole (length g.names) g.lines c.in_ok-whole.whole c.in_ok-whole.ensures (omega (arith, c.len.ensures, c.if-len-ge2.false)) X proper in absurd (omega arith);
    }
