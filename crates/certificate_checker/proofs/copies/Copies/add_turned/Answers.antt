use Rattle.std.proofs.Common.{false, true, arith, length, ◌<◌, ◌≡◌, take, get_or, ◌∙◌, subst}
use Rattle.std.proofs.lemmas.List.{take_all, get_or_default}
use Rattle.graph_core.specs.declared.graph.Kind.TheVariants.{Directed}
use Rattle.problem_defs.specs.Orient.{turned}
use Rattle.certificate_checker.proofs.copies.Copies.add_turned.Goals.{then-heads-j, else-heads-j}
use Rattle.certificate_checker.specs.Copies.{cut_count, line_count, CountsMore}
use Rattle.certificate_checker.proofs.CopyLaws.{more-at, more-turned}
use Rattle.certificate_checker.proofs.copies.Copies.add_turned.Goals as goal
use Rattle.graph_core.specs.Graph.{no_line}

pub loop-j-preserved : goal.loop-j-preserved
loop-j-preserved c =
    let me = c.args.self.now in
    let inv = c.loop-j.invariant in
    let j = c.loop-j.j in
    let ls = c.args.lines.now in
    let hs = c.args.heads.now in
    let now = c.loop-j.self in
    let l = get_or ls j no_line in
    let is : get_or ls j l ≡ l = get_or_default ls j l no_line c.loop-j-test.true in
    let each : j < length hs = (let short = c.loop-j-test.true in omega (arith, c.requires.each)) in
    elim c.if-heads-j.branch [
      | then-heads-j w ↦
          let step = w.add_line.ensures in
          let new = w.add_line.new.self in
          rw w.self-is (record {
            n = step.n ∙ inv.n;
            most = step.most ∙ inv.most;
            counted = more-turned me.n me.most me.table.items now.table.items new.table.items ls hs j l true c.loop-j-test.true each is w.if-heads-j.true inv.counted
                (more-at now.n me.n now.most me.most now.table.items new.table.items (λ X. line_count Directed X l.tail l.head) inv.n inv.most step.counted);
          })
      | else-heads-j w ↦
          let step = w.add_line-else-heads-j.ensures in
          let new = w.add_line-else-heads-j.new.self in
          rw w.self-is (record {
            n = step.n ∙ inv.n;
            most = step.most ∙ inv.most;
            counted = more-turned me.n me.most me.table.items now.table.items new.table.items ls hs j l false c.loop-j-test.true each is w.if-heads-j.false inv.counted
                (more-at now.n me.n now.most me.most now.table.items new.table.items (λ X. line_count Directed X l.head l.tail) inv.n inv.most step.counted);
          })
    ]

pub returns-clause-counted : goal.returns-clause-counted
returns-clause-counted c =
    let me = c.args.self.now in
    let ls = c.args.lines.now in
    let hs = c.args.heads.now in
    let both : turned (take c.loop-j.j ls) (take c.loop-j.j hs) ≡ turned ls hs = λ t. turned (take_all c.loop-j.j ls c.loop-j-test.false t) (take_all c.loop-j.j hs (omega (arith, c.requires.each, c.loop-j-test.false)) t) in
    subst (λ all. CountsMore me.n me.most me.table.items c.loop-j.self.table.items (λ X. cut_count Directed X all)) both c.loop-j.invariant.counted
