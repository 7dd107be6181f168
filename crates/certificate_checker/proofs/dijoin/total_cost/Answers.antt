use Rattle.std.proofs.Common.{◌≤◌, sum_by, arith, ap}
use Rattle.std.proofs.lemmas.List.Elements.{All-weaker}
use Rattle.std.proofs.lemmas.List.Sums.{sum_by_more_le, sum_by-le}
use Rattle.graph_core.specs.Graph.{IsPriced, no_line}
use Rattle.graph_core.specs.declared.graph.Line.{Line}
use Rattle.certificate_checker.proofs.dijoin.total_cost.Goals as goal

pub overflow_add-total : goal.overflow_add-total
overflow_add-total c =
    let g = c.args.graph.now in
    let ls = c.lines-line-items.result.now in
    let same = ap (sum_by (λ (l : Line). l.cost)) c.lines-line-items.ensures in
    let more = sum_by_more_le (λ (l : Line). l.cost) ls c.loop-line.line-index no_line c.loop-line-test.true in
    let all = sum_by-le (λ (l : Line). l.cost) 100 g.lines (All-weaker (IsPriced g.kind) (λ l. l.cost ≤ 100) (λ l p. p.most) g.lines c.known.ensures.makes.priced) in
    omega (arith, same, more, all, c.known.ensures.makes.few, c.loop-line.invariant)
