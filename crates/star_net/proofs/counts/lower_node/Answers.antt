use Rattle.std.proofs.Common.{◌+◌, ◌-◌, ◌∙◌, arith}
use Rattle.std.specs.Prelude.{slice_index}
use Rattle.std.proofs.lemmas.List.{get_or_read, get_or-set_other}
use Rattle.flow_cuts.specs.StarValues.{with_counts}
use Rattle.star_net.specs.LeastProper.{IsLeastProper}
use Rattle.star_net.specs.Lowered.{capacity_over}
use Rattle.star_net.proofs.Lowering.{small_counts, lowered_next}
use Rattle.star_net.proofs.counts.lower_node.Goals as goal

pub overflow_add-stop : goal.overflow_add-stop
overflow_add-stop c =
    let s = c.requires.lowered in
    let at = get_or_read c.args.least.now.counts.items c.args.v c.index.result.now (omega (arith, s.long)) c.index.ensures 0 in
    omega (arith, at, s.most c.args.v)

pub least_value-requires-clause-arcs : goal.least_value-requires-clause-arcs
least_value-requires-clause-arcs c = rw (c.deref.ensures.value, c.requires.lowered.long) c.requires.arcs

pub least_value-requires-clause-small : goal.least_value-requires-clause-small
least_value-requires-clause-small c = rw c.deref.ensures.value (small_counts c.requires.lowered c.requires.small)

pub least_value-requires-clause-last : goal.least_value-requires-clause-last
least_value-requires-clause-last c = λ _.
    let s = c.requires.lowered in
    let at = get_or_read c.args.least.now.counts.items c.args.v c.index.result.now (omega (arith, s.long)) c.index.ensures 0 in
    rw (c.deref.ensures.value, s.long) (omega (arith, at, c.requires.last))

pub lower-requires-clause-count : goal.lower-requires-clause-count
lower-requires-clause-count c = omega (arith, c.requires.lowered.most c.args.v)

pub lower-requires-clause-value : goal.lower-requires-clause-value
lower-requires-clause-value c =
    let at = get_or_read c.args.least.now.counts.items c.args.v c.index.result.now (omega (arith, c.requires.lowered.long)) c.index.ensures 0 in
    omega (arith, at, c.in_ok-value.ensures.stopped)

pub returns-clause-last : goal.returns-clause-last
returns-clause-last c = λ l. rw c.in_ok-lower.ensures.counts (get_or-set_other c.args.least.now.counts.items c.args.v (c.args.n - 1) _ 0 (λ e. absurd (omega arith)) ∙ c.requires.last)

pub returns-clause-lowered : goal.returns-clause-lowered
returns-clause-lowered c =
    let s = c.requires.lowered in
    let counts = c.args.least.now.counts.items in
    let at = get_or_read counts c.args.v c.index.result.now (omega (arith, s.long)) c.index.ensures 0 in
    let value : IsLeastProper c.args.n (with_counts (capacity_over c.args.arcs.now) counts) c.args.v (c.args.k + slice_index counts c.args.v) c.in_ok-value.value c.least_value.new.into =
    rw (c.deref.ensures.value, s.long, at) at c.in_ok-value.ensures in
    lowered_next s c.requires.v value _ _ c.in_ok-lower.ensures.counts c.in_ok-lower.ensures.kept c.in_ok-lower.ensures.pushed
