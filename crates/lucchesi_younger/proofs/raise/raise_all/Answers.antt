use Rattle.std.proofs.Common.{sym, ◌∙◌, arith}
use Rattle.lucchesi_younger.proofs.Costs.{sum-le-sum}
use Rattle.lucchesi_younger.proofs.raise.raise_all.Goals as goal

pub joins-smaller : goal.joins-smaller
joins-smaller c =
    let now = sum-le-sum c.joins.work.costs c.args.costs.now (c.joins.invariant.kept.costs_long ∙ sym c.requires.long) c.joins.invariant.spent.within in
    let more = c.in_ok-number.ensures.more in
    let end = c.joins-test.true in
    let count = c.line_count.ensures.count in
    omega arith
