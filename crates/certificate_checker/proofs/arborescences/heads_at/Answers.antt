use Rattle.std.proofs.Common.{◌∙◌, ◌==◌, sym, ap, slice_get}
use Rattle.std.specs.Prelude.{count_by}
use Rattle.std.proofs.lemmas.List.{take_all}
use Rattle.graph_core.proofs.Counting.{passes, count_by-picked}
use Rattle.certificate_checker.proofs.arborescences.heads_at.Goals as goal

pub returns : goal.returns
returns c =
    c.loop-j.invariant.counted ∙ ap (count_by (λ j. passes (λ k. k.head == c.args.node) (slice_get c.args.graph.now.lines j))) (take_all c.loop-j.j-index c.args.row.now c.loop-j-test.false)
    ∙ sym (count_by-picked (λ k. k.head == c.args.node) c.args.graph.now.lines c.args.row.now)
