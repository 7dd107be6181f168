use Rattle.std.proofs.Common.{◌≡◌, take}
use Rattle.graph_core.specs.declared.graph.Kind.TheVariants.{Directed}
use Rattle.problem_defs.specs.Orient.{turned}
use Rattle.certificate_checker.specs.Copies.{cut_count, CountsMore}
use Rattle.certificate_checker.proofs.copies.Copies.add_turned.Given as goal

abbrev pub invariant-loop-j : goal.invariant-loop-j
invariant-loop-j l = record {
  n : l.self.n ≡ l.fn.self.n;
  most : l.self.most ≡ l.fn.self.most;
  counted : CountsMore l.fn.self.n l.fn.self.most l.fn.self.table.items l.self.table.items (λ X. cut_count Directed X (turned (take l.j l.lines) (take l.j l.heads)));
}
