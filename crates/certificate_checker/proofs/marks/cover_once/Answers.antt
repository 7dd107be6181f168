use Rattle.std.proofs.Common.{◌≡◌, ◌∙◌, ◌++◌, ◌↔◌, ℕ, ◌<◌, IsTrue, rules, ap, sym, subst, true, false, length, take, drop, replicate}
use Rattle.std.specs.Prelude.{All}
use Rattle.std.specs.List.{concat}
use Rattle.std.proofs.lemmas.Bool.{false≢true}
use Rattle.std.proofs.lemmas.List.{length-replicate}
use Rattle.std.proofs.Math.Seq.{take-append_seam}
use Rattle.graph_core.specs.Picked.{occurrences}
use Rattle.certificate_checker.proofs.MarkLaws.{marked-once, twice-not_once}
use Rattle.certificate_checker.proofs.marks.cover_once.Goals as goal

pub returns-then-not-mark_rows : goal.returns-then-not-mark_rows
returns-then-not-mark_rows c =
    let n = c.args.limit in
    let rows = c.as_slice.result.now in
    let start : c.deref_mut.result.now ≡ replicate n false = search rules in
    let long : length c.deref_mut.result.now ≡ n = ap length start ∙ length-replicate n false in
    let (x, within, twice) = c.if-not-mark_rows.ensures.twice in
    (λ never. absurd (false≢true never), λ every. absurd (twice-not_once n x c.deref_mut.result.now rows start (subst (λ k. x < k) long within) twice (subst (λ r. (j : ℕ) → j < n → occurrences j (concat r) ≡ 1) (sym c.as_slice.ensures) every)))

pub returns : goal.returns
returns c =
    let n = c.args.limit in
    let start : c.deref_mut.result.now ≡ replicate n false = search rules in
    let long : length c.mark_rows.new.marks ≡ n = c.mark_rows.auto.marks ∙ ap length start ∙ length-replicate n false in
    let rest = drop (length c.mark_rows.new.marks) c.in_ok-marks.marks.items in
    let all : c.deref.result.now ≡ c.mark_rows.new.marks =
    c.deref.ensures.value ∙ ap (λ k. take k (c.mark_rows.new.marks ++ rest)) (sym (c.mark_rows.auto.marks ∙ c.deref_mut.ensures.len)) ∙ take-append_seam c.mark_rows.new.marks rest in
    subst (λ rows. IsTrue c.are_all_marked.result ↔ ((j : ℕ) → j < n → occurrences j (concat rows) ≡ 1)) c.as_slice.ensures
    (marked-once n c.deref_mut.result.now c.mark_rows.new.marks c.as_slice.result.now c.are_all_marked.result start long c.if-not-mark_rows.ensures.once
    (subst (λ X. IsTrue c.are_all_marked.result ↔ All (λ b. b ≡ true) X) all c.are_all_marked.ensures))
