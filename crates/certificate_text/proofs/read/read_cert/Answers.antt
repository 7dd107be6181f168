use Rattle.std.proofs.Common.{true≢false, sym, ◌∙◌}
use Rattle.certificate_text.proofs.FrontLaws.{bad-empty, bad-title, read-title, bad-one, bad-command, read-command}
use Rattle.certificate_text.proofs.read.read_cert.Goals as goal

pub returns-in_default-clause-bad : goal.returns-in_default-clause-bad
returns-in_default-clause-bad c = bad-empty c.args.graph.now c.args.bytes.now c.known.ensures c.in_default.ensures

pub returns-then-not-title-clause-bad : goal.returns-then-not-title-clause-bad
returns-then-not-title-clause-bad c =
    bad-title c.args.graph.now c.args.bytes.now c.in-Some.first.now c.in-Some.after.now c.known.ensures c.in-Some.ensures.1 (λ same. true≢false (sym (c.in-Ok.ensures.1 same) ∙ c.if-not-title.true))

pub returns-in_default-whole_line-clause-bad : goal.returns-in_default-whole_line-clause-bad
returns-in_default-whole_line-clause-bad c =
    let begun = read-title c.args.graph.now c.args.bytes.now c.in-Some.first.now c.in-Some.after.now (c.in-Ok.ensures.0 c.if-not-title.false) c.in-Some.ensures.0 in
    bad-one c.args.graph.now c.args.bytes.now c.in-Some.after.now c.known.ensures begun c.in_default-whole_line.ensures

pub returns-in_default-command-clause-bad : goal.returns-in_default-command-clause-bad
returns-in_default-command-clause-bad c =
    let begun = read-title c.args.graph.now c.args.bytes.now c.in-Some.first.now c.in-Some.after.now (c.in-Ok.ensures.0 c.if-not-title.false) c.in-Some.ensures.0 in
    bad-command c.args.graph.now c.args.bytes.now c.in-Some.after.now c.in-Some-whole_line.second.now c.in-Some-whole_line.rest.now c.known.ensures begun c.in-Some-whole_line.ensures.1 (rw c.in_default-command.is at c.in-Ok-read_command.ensures)

pub read_rows-requires : goal.read_rows-requires
read_rows-requires c =
    let begun = read-title c.args.graph.now c.args.bytes.now c.in-Some.first.now c.in-Some.after.now (c.in-Ok.ensures.0 c.if-not-title.false) c.in-Some.ensures.0 in
    let said = rw c.in-Some-command.is at c.in-Ok-read_command.ensures in
    record { begun = read-command c.args.graph.now c.args.bytes.now c.in-Some.after.now c.in-Some-whole_line.second.now c.in-Some-whole_line.rest.now c.in-Some-command.ask begun said.0 said.1 c.in-Some-whole_line.ensures.0 }
