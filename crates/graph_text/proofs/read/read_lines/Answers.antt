use Rattle.std.proofs.Common.{◌≡◌, ◌+◌, ◌-◌, None, sym, ap, subst, ◌∙◌, length, rules, arith}
use Rattle.graph_text.specs.Said.{line_says}
use Rattle.graph_text.specs.Cause.{cause}
use Rattle.graph_text.specs.Reading.{IsFault}
use Rattle.graph_text.specs.Taken.{grown, ReadsLines}
use Rattle.graph_text.proofs.TextLemmas.{CanTake-None}
use Rattle.graph_text.proofs.ReadLemmas.{Reading, reading_first, next_line, fault_next, ended_next, reading_next, fault_end}
use Rattle.graph_text.proofs.read.read_lines.Goals as goal

pub loop-rest-init : goal.loop-rest-init
loop-rest-init c = subst (Reading c.args.bytes.now c.args.bytes.now 0) (sym c.requires) (reading_first c.args.bytes.now)

pub returns-in-Some-clause-refused : goal.returns-in-Some-clause-refused
returns-in-Some-clause-refused c =
    let reading = c.loop-rest.invariant in
    let first = c.first_line.result.0.now in
    let after = c.first_line.result.1.now in
    let next = next_line c.args.bytes.now c.loop-rest.rest.now first after c.loop-rest.line c.loop-rest.draft reading c.first_line.ensures.split c.first_line.ensures.lines c.first_line.ensures.whole in
    let here = ap (cause c.loop-rest.draft) (sym c.item_of_line-item.ensures) ∙ sym c.cause.ensures ∙ c.in-Some.is in
    fault_next c.args.bytes.now c.loop-rest.rest.now first after c.loop-rest.line c.loop-rest.draft reading _ next c.in-Some.why here

pub returns-then-is_end-clause-ok : goal.returns-then-is_end-clause-ok
returns-then-is_end-clause-ok c =
    let bytes = c.args.bytes.now in
    let reading = c.loop-rest.invariant in
    let first = c.first_line.result.0.now in
    let after = c.first_line.result.1.now in
    let next = next_line bytes c.loop-rest.rest.now first after c.loop-rest.line c.loop-rest.draft reading c.first_line.ensures.split c.first_line.ensures.lines c.first_line.ensures.whole in
    let none : cause c.loop-rest.draft (line_says first) ≡ None = ap (cause c.loop-rest.draft) (sym c.item_of_line-item.ensures) ∙ sym c.cause.ensures ∙ c.in_default.is in
    let ended = sym c.item_of_line-item.ensures ∙ c.is_end.ensures.0 (search rules) in
    let count : reading.count + length first ≡ length bytes - length after = omega (arith, next.place) in
    subst (ReadsLines bytes c.loop-rest.draft (c.loop-rest.line + 1)) count (ended_next bytes c.loop-rest.rest.now first after c.loop-rest.line c.loop-rest.draft reading _ next c.first_line.ensures.shorter none ended)

pub take-requires : goal.take-requires
take-requires c = CanTake-None c.loop-rest.draft _ (sym c.cause.ensures ∙ c.in_default.is)

pub loop-rest-preserved : goal.loop-rest-preserved
loop-rest-preserved c =
    let bytes = c.args.bytes.now in
    let reading = c.loop-rest.invariant in
    let first = c.first_line.result.0.now in
    let after = c.first_line.result.1.now in
    let draft = c.loop-rest.draft in
    let says = c.item_of_line-item.ensures in
    let next = next_line bytes c.loop-rest.rest.now first after c.loop-rest.line draft reading c.first_line.ensures.split c.first_line.ensures.lines c.first_line.ensures.whole in
    let none : cause draft (line_says first) ≡ None = ap (cause draft) (sym says) ∙ sym c.cause.ensures ∙ c.in_default.is in
    let goes_on = reading_next bytes c.loop-rest.rest.now first after c.loop-rest.line draft reading _ next c.first_line.ensures.shorter none (λ e. let t = c.is_end.ensures.1 (says ∙ e) in search rules) in
    let more : grown draft (line_says first) ≡ c.take.new.draft = ap (grown draft) (sym says) ∙ sym c.in-Ok.ensures.ok in
    subst (Reading bytes after (c.loop-rest.line + 1)) more goes_on

pub returns-clause-refused : goal.returns-clause-refused
returns-clause-refused c =
    let empty : length c.loop-rest.rest.now ≡ 0 = search rules in
    subst (IsFault c.args.bytes.now (c.loop-rest.line + 1)) (sym c.missing.ensures) (fault_end c.args.bytes.now c.loop-rest.rest.now c.loop-rest.line c.loop-rest.draft c.loop-rest.invariant empty)
