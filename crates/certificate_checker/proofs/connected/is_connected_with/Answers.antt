use Rattle.std.proofs.Common.{IfOk, IsTrue, ◌↔◌, arith, ◌+◌, ◌++◌, ◌∙◌, subst}
use Rattle.graph_core.specs.Graph.{lines_of}
use Rattle.certificate_checker.specs.Copies.{cut_count, Counts, CountsMore, IsKConnected}
use Rattle.certificate_checker.proofs.CopyLaws.{more-both, counts-same, count-append}
use Rattle.certificate_checker.proofs.connected.is_connected_with.Goals as goal

pub returns : goal.returns
returns c =
    let g = c.args.graph.now in
    let n = c.node_count.result in
    let k = c.args.k in
    let all = g.lines ++ lines_of c.args.pairs.now in
    let new = c.in_ok-copies.ensures in
    let first = c.add_lines.ensures in
    let second = c.add_pairs.ensures in
    let none = c.in_ok-copies.copies.table.items in
    let some = c.add_lines.new.self.table.items in
    let every = c.add_pairs.new.self.table.items in
    let lines : CountsMore n k none some (λ X. cut_count g.kind X g.lines) = rw (new.n, new.most, c.kind.ensures, c.lines.ensures) at first.counted in
    let pairs : CountsMore n k some every (λ X. cut_count g.kind X (lines_of c.args.pairs.now)) = rw (first.n ∙ new.n, first.most ∙ new.most, c.kind-2.ensures, c.as_slice.ensures) at second.counted in
    let counts : Counts n k every (λ X. cut_count g.kind X all) =
    counts-same n k every (λ X. 0 + (cut_count g.kind X g.lines + cut_count g.kind X (lines_of c.args.pairs.now))) (λ X. cut_count g.kind X all) (λ X. let both = count-append g.kind X g.lines (lines_of c.args.pairs.now) in omega arith)
    (more-both n k none some every (λ X. cut_count g.kind X g.lines) (λ X. cut_count g.kind X (lines_of c.args.pairs.now)) lines pairs (λ _. 0) new.none) in
    let answer = c.is_reached.ensures (λ X. cut_count g.kind X all) (rw (second.n ∙ first.n ∙ new.n, second.most ∙ first.most ∙ new.most) counts) in
    subst (λ m. IfOk c.is_reached.result (λ is. IsTrue is ↔ IsKConnected g.kind k m all)) c.node_count.ensures (rw (second.n ∙ first.n ∙ new.n, second.most ∙ first.most ∙ new.most) at answer)
