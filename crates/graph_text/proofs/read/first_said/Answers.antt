use Rattle.std.proofs.Common.{◌≡◌, sym, ◌∙◌, length, rules, true≢false}
use Rattle.graph_text.proofs.SkipLemmas.{skipping_first, found_next, skipping_next, skipped_end}
use Rattle.graph_text.proofs.read.first_said.Goals as goal

pub loop-rest-init : goal.loop-rest-init
loop-rest-init c = skipping_first c.args.bytes.now

pub returns-then-not-is_skipped-clause-place : goal.returns-then-not-is_skipped-clause-place
returns-then-not-is_skipped-clause-place c =
    found_next c.args.bytes.now c.loop-rest.rest.now c.first_line.result.0.now c.first_line.result.1.now c.loop-rest.at c.loop-rest.invariant c.first_line.ensures.lines
    (λ e. true≢false (sym (c.is_skipped.ensures.1 (c.item_of_line-item.ensures ∙ e)) ∙ c.if-not-is_skipped.true))

pub loop-rest-preserved : goal.loop-rest-preserved
loop-rest-preserved c =
    skipping_next c.args.bytes.now c.loop-rest.rest.now c.first_line.result.0.now c.first_line.result.1.now c.loop-rest.at c.loop-rest.invariant c.first_line.ensures.lines c.first_line.ensures.shorter
    (sym c.item_of_line-item.ensures ∙ c.is_skipped.ensures.0 c.if-not-is_skipped.false)

pub returns-clause-place : goal.returns-clause-place
returns-clause-place c =
    let empty : length c.loop-rest.rest.now ≡ 0 = search rules in
    skipped_end c.args.bytes.now c.loop-rest.rest.now c.loop-rest.at c.loop-rest.invariant empty
