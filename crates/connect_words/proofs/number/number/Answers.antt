use Rattle.std.proofs.Common.{◌≡◌, false, true, refl, ◌∙◌}
use Rattle.connect_words.proofs.NumberLemmas.{read-decimal, unread-decimal, decimal_plain}
use Rattle.connect_words.proofs.number.number.Goals as goal

pub returns-then-not-is_plain-clause-absent : goal.returns-then-not-is_plain-clause-absent
returns-then-not-is_plain-clause-absent c n small same =
    let wrong : false ≡ true = c.if-not-is_plain.ensures.1 (decimal_plain n c.as_bytes.result.now small (c.as_bytes.ensures.value ∙ same)) in cc

pub returns-in-Ok-clause-found : goal.returns-in-Ok-clause-found
returns-in-Ok-clause-found c =
    let plain = rw c.as_bytes.ensures.value at c.if-not-is_plain.ensures.0 refl in
    read-decimal c.args.word.now c.in-Ok.number c.in-Ok.ensures.value.0 plain.0 plain.1

pub returns-in-Err-clause-absent : goal.returns-in-Err-clause-absent
returns-in-Err-clause-absent c = unread-decimal _ c.args.word.now c.in-Err.field-0 c.in-Err.ensures.value.0
