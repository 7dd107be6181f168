use Rattle.std.proofs.Common.{◌≡◌, ◌+◌, ◌++◌, [], ◌∷◌, take, get_or, sym, ap, ◌∙◌, subst}
use Rattle.std.proofs.lemmas.List.{take_all}
use Rattle.std.proofs.lemmas.Option.{slice_get-get_or}
use Rattle.graph_core.specs.Graph.{no_line}
use Rattle.graph_core.specs.Lines.{leaving}
use Rattle.graph_core.specs.Picked.{picked}
use Rattle.graph_core.specs.Side.{has}
use Rattle.graph_core.proofs.PickedLaws.{picked-more}
use Rattle.flow_cuts.specs.Network.{across}
use Rattle.certificate_checker.specs.Copies.{CountsMore}
use Rattle.certificate_checker.proofs.CopyLaws.{more-same, more-both, more-at}
use Rattle.certificate_checker.proofs.DicutLaws.{leaving-next}
use Rattle.certificate_checker.proofs.copies.Copies.add_picked.Goals as goal

pub loop-j-preserved : goal.loop-j-preserved
loop-j-preserved c =
    let me = c.args.self.now in
    let inv = c.loop-j.invariant in
    let i = c.loop-j.j-index in
    let ls = c.args.lines.now in
    let row = c.args.row.now in
    let j = get_or row i 0 in
    let l = get_or ls j no_line in
    let step = c.add.ensures in
    let now = c.loop-j.self in
    let new = c.add.new.self.table.items in
    let next : picked ls (take (i + 1) row) ≡ picked ls (take i row) ++ l ∷ [] = picked-more ls row i l c.loop-j-test.true (slice_get-get_or ls j no_line (c.requires.below i 0 c.loop-j-test.true)) in
    record {
      n = step.n ∙ inv.n;
      most = step.most ∙ inv.most;
      counted = more-same me.n me.most me.table.items new (λ X. leaving X (picked ls (take i row)) + across (has X l.tail) (has X l.head) 1) (λ X. leaving X (picked ls (take (i + 1) row))) (λ X. sym (ap (leaving X) next ∙ leaving-next X (picked ls (take i row)) l))
          (more-both me.n me.most me.table.items now.table.items new (λ X. leaving X (picked ls (take i row))) (λ X. across (has X l.tail) (has X l.head) 1) inv.counted
          (more-at now.n me.n now.most me.most now.table.items new (λ X. across (has X l.tail) (has X l.head) 1) inv.n inv.most step.counted));
    }

pub returns-clause-counted : goal.returns-clause-counted
returns-clause-counted c =
    let me = c.args.self.now in
    subst (λ row. CountsMore me.n me.most me.table.items c.loop-j.self.table.items (λ X. leaving X (picked c.args.lines.now row))) (take_all c.loop-j.j-index c.args.row.now c.loop-j-test.false) c.loop-j.invariant.counted

pub add-requires-clause-tail : goal.add-requires-clause-tail
add-requires-clause-tail c =
    let j = get_or c.args.row.now c.loop-j.j-index 0 in
    rw c.loop-j.invariant.n (c.requires.fit j no_line (c.requires.below c.loop-j.j-index 0 c.loop-j-test.true)).tail

pub add-requires-clause-head : goal.add-requires-clause-head
add-requires-clause-head c =
    let j = get_or c.args.row.now c.loop-j.j-index 0 in
    rw c.loop-j.invariant.n (c.requires.fit j no_line (c.requires.below c.loop-j.j-index 0 c.loop-j-test.true)).head
