use Rattle.std.proofs.Common.{◌≡◌, take}
use Rattle.certificate_checker.specs.Copies.{cut_count, CountsMore}
use Rattle.certificate_checker.proofs.copies.Copies.add_lines.Given as goal

abbrev pub invariant-loop-line : goal.invariant-loop-line
invariant-loop-line l = record {
  n : l.self.n ≡ l.fn.self.n;
  most : l.self.most ≡ l.fn.self.most;
  counted : CountsMore l.fn.self.n l.fn.self.most l.fn.self.table.items l.self.table.items (λ X. cut_count l.kind X (take l.line-index l.lines));
}
