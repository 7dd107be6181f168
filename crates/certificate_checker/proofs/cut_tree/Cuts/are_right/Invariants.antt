use Rattle.std.proofs.Common.{◌≡◌, ◌<◌, ℕ}
use Rattle.problem_defs.specs.CutTree.{IsLeastCut}
use Rattle.graph_core.specs.Pairs.{pair_at}
use Rattle.certificate_checker.proofs.cut_tree.Cuts.are_right.Given as goal

abbrev pub invariant-loop-j : goal.invariant-loop-j
invariant-loop-j l = record {
  same : l.self.cuts.graph.now ≡ l.initial.self.cuts.graph.now;
  right : (k : ℕ) → k < l.j → IsLeastCut l.initial.self.cuts.graph.now l.pairs (pair_at l.pairs k).0 (pair_at l.pairs k).1 (pair_at l.pairs k).2;
}
