use Rattle.std.proofs.Common.{ℕ, Bool, List, length, IfOk, IsTrue, ◌↔◌, arith, ◌+◌, ◌≤◌, ◌∙◌, subst}
use Rattle.std.proofs.lemmas.Result.{IfOk-weaker}
use Rattle.graph_core.specs.Side.{IsProper}
use Rattle.graph_core.specs.Lines.{entering, leaving}
use Rattle.graph_core.specs.Picked.{picked}
use Rattle.certificate_checker.specs.Copies.{Counts, CountsMore}
use Rattle.certificate_checker.specs.Dicuts.{Covers}
use Rattle.certificate_checker.proofs.CopyLaws.{more-both, counts-same}
use Rattle.certificate_checker.proofs.DicutLaws.{covers-law}
use Rattle.certificate_checker.proofs.dijoin.covers.Goals as goal

pub returns : goal.returns
returns c =
    let g = c.args.graph.now in
    let n = c.node_count.result in
    let picks = picked g.lines c.args.row.now in
    let new = c.in_ok-copies.ensures in
    let first = c.add_lines.ensures in
    let second = c.add_picked.ensures in
    let none = c.in_ok-copies.copies.table.items in
    let some = c.add_lines.new.self.table.items in
    let every = c.add_picked.new.self.table.items in
    let f : List Bool → ℕ = λ X. entering X g.lines + leaving X picks in
    let lines : CountsMore n 1 none some (λ X. entering X g.lines) = rw (new.n, new.most, c.lines.ensures) at first.counted in
    let join : CountsMore n 1 some every (λ X. leaving X picks) = rw (first.n ∙ new.n, first.most ∙ new.most, c.lines-2.ensures) at second.counted in
    let counts : Counts n 1 every f = counts-same n 1 every (λ X. 0 + (entering X g.lines + leaving X picks)) f (λ X. omega arith) (more-both n 1 none some every (λ X. entering X g.lines) (λ X. leaving X picks) lines join (λ _. 0) new.none) in
    let answer = c.is_reached.ensures f (rw (second.n ∙ first.n ∙ new.n, second.most ∙ first.most ∙ new.most) counts) in
    let all : ℕ → Type 0 = λ m. (X : List Bool) → IsProper m X → 1 ≤ f X in
    let law = covers-law g c.args.row.now c.known.ensures in
    IfOk-weaker c.is_reached.result (λ is. IsTrue is ↔ all (length g.names)) (λ is. IsTrue is ↔ Covers g c.args.row.now) (λ is h. (λ t. law.0 (h.0 t), λ covered. h.1 (law.1 covered)))
    (subst (λ m. IfOk c.is_reached.result (λ is. IsTrue is ↔ all m)) c.node_count.ensures (rw (second.n ∙ first.n ∙ new.n, second.most ∙ first.most ∙ new.most) at answer))
