use Rattle.std.proofs.Common.{◌≡◌, take}
use Rattle.graph_core.specs.Lines.{leaving}
use Rattle.graph_core.specs.Picked.{picked}
use Rattle.certificate_checker.specs.Copies.{CountsMore}
use Rattle.certificate_checker.proofs.copies.Copies.add_picked.Given as goal

abbrev pub invariant-loop-j : goal.invariant-loop-j
invariant-loop-j l = record {
  n : l.self.n ≡ l.fn.self.n;
  most : l.self.most ≡ l.fn.self.most;
  counted : CountsMore l.fn.self.n l.fn.self.most l.fn.self.table.items l.self.table.items (λ X. leaving X (picked l.lines (take l.j-index l.row)));
}
