use Rattle.std.proofs.Common.{◌≡◌, ◌∙◌, ◌+◌, ◌<◌, ◌≤◌, ℕ, length, rules, false, ap, subst, replicate}
use Rattle.std.specs.Bool.{OnFalse}
use Rattle.std.proofs.lemmas.List.{length-replicate}
use Rattle.graph_core.specs.Picked.{occurrences, mark}
use Rattle.graph_core.proofs.MarkLaws.{marked-apart}
use Rattle.graph_core.proofs.distinct.are_distinct.Goals as goal

pub returns : goal.returns
returns c =
    let row = c.args.row.now in
    let start : c.deref_mut.result.now ≡ replicate c.args.limit false = search rules in
    let long : length c.deref_mut.result.now ≡ c.args.limit = ap length start ∙ length-replicate c.args.limit false in
    marked-apart c.args.limit c.deref_mut.result.now c.mark_row.new.marks row c.mark_row.result start c.mark_row.ensures.once
    (subst (λ n. OnFalse c.mark_row.result ((j : ℕ) × (j < n) × (2 ≤ mark c.deref_mut.result.now j + occurrences j row))) long c.mark_row.ensures.twice)
