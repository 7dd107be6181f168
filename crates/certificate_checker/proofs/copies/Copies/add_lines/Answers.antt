use Rattle.std.proofs.Common.{◌≡◌, ◌+◌, ◌++◌, [], ◌∷◌, take, get_or, sym, ap, ◌∙◌, subst, add-one}
use Rattle.std.proofs.Math.Seq.{take-suc}
use Rattle.std.proofs.lemmas.List.{take_all}
use Rattle.certificate_checker.specs.Copies.{cut_count, line_count, CountsMore}
use Rattle.certificate_checker.proofs.CopyLaws.{more-same, more-both, more-at, count-next}
use Rattle.certificate_checker.proofs.copies.Copies.add_lines.Goals as goal
use Rattle.graph_core.specs.Graph.{no_line}

pub loop-line-preserved : goal.loop-line-preserved
loop-line-preserved c =
    let me = c.args.self.now in
    let inv = c.loop-line.invariant in
    let i = c.loop-line.line-index in
    let ls = c.args.lines.now in
    let l = get_or ls i no_line in
    let kind = c.args.kind in
    let step = c.add_line.ensures in
    let now = c.loop-line.self in
    let new = c.add_line.new.self.table.items in
    let next : take (i + 1) ls ≡ take i ls ++ l ∷ [] = rw add-one (take-suc ls i no_line c.loop-line-test.true) in
    record {
      n = step.n ∙ inv.n;
      most = step.most ∙ inv.most;
      counted = more-same me.n me.most me.table.items new (λ X. cut_count kind X (take i ls) + line_count kind X l.tail l.head) (λ X. cut_count kind X (take (i + 1) ls)) (λ X. sym (ap (cut_count kind X) next ∙ count-next kind X (take i ls) l))
          (more-both me.n me.most me.table.items now.table.items new (λ X. cut_count kind X (take i ls)) (λ X. line_count kind X l.tail l.head) inv.counted
          (more-at now.n me.n now.most me.most now.table.items new (λ X. line_count kind X l.tail l.head) inv.n inv.most step.counted));
    }

pub returns-clause-counted : goal.returns-clause-counted
returns-clause-counted c =
    let me = c.args.self.now in
    subst (λ ls. CountsMore me.n me.most me.table.items c.loop-line.self.table.items (λ X. cut_count c.args.kind X ls)) (take_all c.loop-line.line-index c.args.lines.now c.loop-line-test.false) c.loop-line.invariant.counted
