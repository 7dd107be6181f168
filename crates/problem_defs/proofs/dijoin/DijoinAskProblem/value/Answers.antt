use Rattle.std.proofs.Common.{◌≡◌, ◌+◌, ◌<◌, ℕ, List, Some, slice_get, length, get_or, take, ap, ◌∙◌, arith}
use Rattle.std.specs.Prelude.{sum_by}
use Rattle.std.proofs.lemmas.List.Sums.{sum_by-append}
use Rattle.graph_core.specs.Graph.{IsPriced}
use Rattle.graph_core.specs.Picked.{picked}
use Rattle.graph_core.specs.declared.graph.Line.{Line}
use Rattle.graph_core.proofs.Counting.{All-slice_get, length-all_picked}
use Rattle.graph_core.proofs.PickedLaws.{picked-more, length-picked-le}
use Rattle.problem_defs.proofs.dijoin.DijoinAskProblem.value.Goals as goal

-- one line more
cost-more : (ls : List Line) (js : List ℕ) (i : ℕ) (l : Line) → i < length js → slice_get ls (get_or js i 0) ≡ Some l
    → sum_by (λ line. line.cost) (picked ls (take (i + 1) js)) ≡ sum_by (λ line. line.cost) (picked ls (take i js)) + l.cost
cost-more ls js i l lt is = let e = ap (sum_by (λ line. line.cost)) (picked-more ls js i l lt is) ∙ sum_by-append (λ line. line.cost) (picked ls (take i js)) _ in omega arith

pub overflow_add-total : goal.overflow_add-total
overflow_add-total c =
    let priced = All-slice_get (IsPriced c.args.graph.now.kind) c.args.graph.now.lines c.known.ensures.makes.priced _ c.line.result c.line.ensures in
    let f = c.requires.feasible.picks in
    omega (arith, priced.most, ap length c.as_slice-j-items.ensures, c.known.ensures.makes.few, c.loop-j-test.true, length-all_picked c.args.graph.now.lines c.args.object.now f.in_range, length-picked-le c.args.graph.now.lines c.args.object.now f.distinct)

pub loop-j-preserved : goal.loop-j-preserved
loop-j-preserved c =
    let priced = All-slice_get (IsPriced c.args.graph.now.kind) c.args.graph.now.lines c.known.ensures.makes.priced _ c.line.result c.line.ensures in
    (omega (arith, cost-more c.args.graph.now.lines c.as_slice-j-items.result.now c.loop-j.j-index c.line.result c.loop-j-test.true c.line.ensures), omega (arith, priced.most))
