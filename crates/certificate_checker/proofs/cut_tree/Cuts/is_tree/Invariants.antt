use Rattle.std.proofs.Common.{◌≡◌, ◌<◌, ℕ, List, Bool, length}
use Rattle.certificate_checker.proofs.TreeLaws.{IsSideOf}
use Rattle.certificate_checker.proofs.cut_tree.Cuts.is_tree.Given as goal

abbrev pub invariant-loop-j : goal.invariant-loop-j
invariant-loop-j l = record {
  same : l.self.cuts.graph.now ≡ l.initial.self.cuts.graph.now;
  sides : (k : ℕ) → k < l.j → (X : List Bool) × IsSideOf (length l.initial.self.cuts.graph.now.names) l.pairs k X;
}
