use Rattle.std.proofs.Common.{IfOk, IsTrue, ◌↔◌, ◌+◌, ◌∙◌, subst, arith}
use Rattle.graph_core.specs.declared.graph.Kind.TheVariants.{Directed}
use Rattle.problem_defs.specs.Orient.{turned}
use Rattle.certificate_checker.specs.Copies.{cut_count, Counts, CountsMore, IsKConnected}
use Rattle.certificate_checker.proofs.CopyLaws.{counts-same}
use Rattle.certificate_checker.proofs.connected.is_connected_turned.Goals as goal

pub returns : goal.returns
returns c =
    let g = c.args.graph.now in
    let n = c.node_count.result in
    let k = c.args.k in
    let all = turned g.lines c.args.heads.now in
    let new = c.in_ok-copies.ensures in
    let step = c.add_turned.ensures in
    let every = c.add_turned.new.self.table.items in
    let lines : CountsMore n k c.in_ok-copies.copies.table.items every (λ X. cut_count Directed X all) = rw (new.n, new.most, c.lines.ensures, c.as_slice.ensures) at step.counted in
    let counts : Counts n k every (λ X. cut_count Directed X all) = counts-same n k every (λ X. 0 + cut_count Directed X all) (λ X. cut_count Directed X all) (λ X. omega arith) (lines (λ _. 0) new.none) in
    let answer = c.is_reached.ensures (λ X. cut_count Directed X all) (rw (step.n ∙ new.n, step.most ∙ new.most) counts) in
    subst (λ m. IfOk c.is_reached.result (λ is. IsTrue is ↔ IsKConnected Directed k m all)) c.node_count.ensures (rw (step.n ∙ new.n, step.most ∙ new.most) at answer)
