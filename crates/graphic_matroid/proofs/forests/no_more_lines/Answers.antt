use Rattle.std.proofs.Common.{length, arith}
use Rattle.graphic_matroid.proofs.DualCounts.{rows-most, most-sum}
use Rattle.graphic_matroid.proofs.forests.no_more_lines.Goals as goal

pub returns : goal.returns
returns c =
    let g = c.args.graph.now in
    let found = c.args.found.now in
    let other = c.args.other.now in
    let most = rows-most (length g.names) g.lines c.known.ensures.makes.ends found.classes c.requires.most.partition other c.requires.forests c.requires.disjoint in
    let sum = most-sum (length g.names) g.lines (length other) found.rows found.classes c.requires.most in
    omega arith
