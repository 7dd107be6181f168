use Rattle.std.proofs.Common.{◌≡◌, ◌∙◌, ◌+◌, ◌<◌, ◌≤◌, ℕ, length, rules, false, ap, subst, replicate, IsTrue, ◌↔◌}
use Rattle.std.specs.Bool.{OnFalse}
use Rattle.std.specs.List.{concat}
use Rattle.std.proofs.lemmas.List.{length-replicate}
use Rattle.graph_core.specs.Picked.{occurrences, mark}
use Rattle.graph_core.specs.Walks.{AreDisjoint}
use Rattle.graph_core.proofs.MarkLaws.{marked-apart}
use Rattle.certificate_checker.proofs.marks.are_disjoint.Goals as goal

pub returns : goal.returns
returns c =
    let start : c.deref_mut.result.now ≡ replicate c.args.limit false = search rules in
    let long : length c.deref_mut.result.now ≡ c.args.limit = ap length start ∙ length-replicate c.args.limit false in
    subst (λ rows. IsTrue c.mark_rows.result ↔ AreDisjoint rows) c.as_slice.ensures
    (marked-apart c.args.limit c.deref_mut.result.now c.mark_rows.new.marks (concat c.as_slice.result.now) c.mark_rows.result start c.mark_rows.ensures.once
    (subst (λ n. OnFalse c.mark_rows.result ((j : ℕ) × (j < n) × (2 ≤ mark c.deref_mut.result.now j + occurrences j (concat c.as_slice.result.now)))) long c.mark_rows.ensures.twice))
