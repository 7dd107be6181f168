use Rattle.std.proofs.Common.{◌≡◌, ◌+◌, sym, ◌∙◌, arith}
use Rattle.std.proofs.lemmas.Fmt.{decimal_injective}
use Rattle.certificate_text.proofs.fields.line_number.Goals as goal

pub returns-then-n-eq0 : goal.returns-then-n-eq0
returns-then-n-eq0 c = λ j l e.
    let same : c.in-Some.n ≡ j + 1 = decimal_injective c.in-Some.n (j + 1) c.in-Some.ensures.0 (omega (arith, l)) (c.in-Some.ensures.1 ∙ sym e) in
    omega (arith, same)

pub returns-then-n-m : goal.returns-then-n-m
returns-then-n-m c = λ j l e.
    let same : c.in-Some.n ≡ j + 1 = decimal_injective c.in-Some.n (j + 1) c.in-Some.ensures.0 (omega (arith, l)) (c.in-Some.ensures.1 ∙ sym e) in
    omega (arith, same, l)
