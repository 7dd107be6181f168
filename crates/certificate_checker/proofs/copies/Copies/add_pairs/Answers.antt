use Rattle.std.proofs.Common.{◌≡◌, ◌+◌, ◌++◌, [], ◌∷◌, take, get_or, sym, ap, ◌∙◌, subst, add-one}
use Rattle.graph_core.specs.Graph.{line_of, lines_of}
use Rattle.std.proofs.Math.Seq.{take-suc}
use Rattle.std.proofs.lemmas.List.{take_all, map-append}
use Rattle.certificate_checker.specs.Copies.{cut_count, line_count, CountsMore}
use Rattle.certificate_checker.proofs.CopyLaws.{more-same, more-both, more-at, count-next}
use Rattle.certificate_checker.proofs.copies.Copies.add_pairs.Goals as goal

pub loop-tail-preserved : goal.loop-tail-preserved
loop-tail-preserved c =
    let me = c.args.self.now in
    let inv = c.loop-tail.invariant in
    let i = c.loop-tail.tail-index in
    let ps = c.args.pairs.now in
    let p = get_or ps i (0, 0) in
    let kind = c.args.kind in
    let step = c.add_line.ensures in
    let now = c.loop-tail.self in
    let new = c.add_line.new.self.table.items in
    let next : lines_of (take (i + 1) ps) ≡ lines_of (take i ps) ++ line_of p ∷ [] = ap lines_of (rw add-one (take-suc ps i (0, 0) c.loop-tail-test.true)) ∙ map-append line_of (take i ps) (p ∷ []) in
    record {
      n = step.n ∙ inv.n;
      most = step.most ∙ inv.most;
      counted = more-same me.n me.most me.table.items new (λ X. cut_count kind X (lines_of (take i ps)) + line_count kind X p.0 p.1) (λ X. cut_count kind X (lines_of (take (i + 1) ps))) (λ X. sym (ap (cut_count kind X) next ∙ count-next kind X (lines_of (take i ps)) (line_of p)))
          (more-both me.n me.most me.table.items now.table.items new (λ X. cut_count kind X (lines_of (take i ps))) (λ X. line_count kind X p.0 p.1) inv.counted
          (more-at now.n me.n now.most me.most now.table.items new (λ X. line_count kind X p.0 p.1) inv.n inv.most step.counted));
    }

pub returns-clause-counted : goal.returns-clause-counted
returns-clause-counted c =
    let me = c.args.self.now in
    subst (λ ps. CountsMore me.n me.most me.table.items c.loop-tail.self.table.items (λ X. cut_count c.args.kind X (lines_of ps))) (take_all c.loop-tail.tail-index c.args.pairs.now c.loop-tail-test.false) c.loop-tail.invariant.counted
