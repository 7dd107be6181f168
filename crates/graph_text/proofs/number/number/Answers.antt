use Rattle.std.proofs.Common.{◌≡◌, sym, ap, subst, ◌∙◌, rules}
use Rattle.std.specs.Fmt.{decimal}
use Rattle.std.specs.Str.{IsAscii}
use Rattle.std.proofs.lemmas.Fmt.{IsAscii-decimal, parse-decimal}
use Rattle.std.proofs.lemmas.Str.{IsUtf8-from_ascii}
use Rattle.graph_text.proofs.number.number.Goals as goal

pub returns-in_default : goal.returns-in_default
returns-in_default c = λ n fit e. c.in_default.ensures.cases.0 (IsUtf8-from_ascii c.args.word.now (subst IsAscii e (IsAscii-decimal n fit)))

pub returns-in_default-parse : goal.returns-in_default-parse
returns-in_default-parse c = λ n fit e.
    let parsed = parse-decimal 64 n c.in-Ok.text.now c.parse.result fit fit (sym (e ∙ sym c.in-Ok.ensures.cases.0)) c.parse.ensures.value.0 in
    let failed = c.in_default-parse.is in
    cc

pub returns-else-eq : goal.returns-else-eq
returns-else-eq c = λ n fit e.
    let parsed = parse-decimal 64 n c.in-Ok.text.now c.parse.result fit fit (sym (e ∙ sym c.in-Ok.ensures.cases.0)) c.parse.ensures.value.0 in
    let read = c.in-Ok-parse.is in
    let same : n ≡ c.in-Ok-parse.n = cc in
    let written : c.as_bytes.result.now ≡ c.args.word.now = c.as_bytes.ensures.value ∙ c.format.ensures.text ∙ ap decimal (sym same) ∙ e in
    search rules
