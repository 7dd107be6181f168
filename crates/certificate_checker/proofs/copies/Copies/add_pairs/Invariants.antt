use Rattle.std.proofs.Common.{◌≡◌, take}
use Rattle.graph_core.specs.Graph.{lines_of}
use Rattle.certificate_checker.specs.Copies.{cut_count, CountsMore}
use Rattle.certificate_checker.proofs.copies.Copies.add_pairs.Given as goal

abbrev pub invariant-loop-tail : goal.invariant-loop-tail
invariant-loop-tail l = record {
  n : l.self.n ≡ l.fn.self.n;
  most : l.self.most ≡ l.fn.self.most;
  counted : CountsMore l.fn.self.n l.fn.self.most l.fn.self.table.items l.self.table.items (λ X. cut_count l.kind X (lines_of (take l.tail-index l.pairs)));
}
