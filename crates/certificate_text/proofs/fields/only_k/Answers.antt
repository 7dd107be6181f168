use Rattle.std.proofs.Common.{◌≡◌, arith}
use Rattle.certificate_text.proofs.FieldLaws.{only-k}
use Rattle.certificate_text.proofs.fields.only_k.Goals as goal

pub returns-then-n-eq0 : goal.returns-then-n-eq0
returns-then-n-eq0 c = λ k is e.
    let same : c.in-Some.n ≡ k = only-k c.in-Some.n k _ c.in-Some.ensures.0 is.1 c.in-Some.ensures.1 e in
    omega (arith, same, is.0)

pub returns-then-n-gt-MOST_K : goal.returns-then-n-gt-MOST_K
returns-then-n-gt-MOST_K c = λ k is e.
    let same : c.in-Some.n ≡ k = only-k c.in-Some.n k _ c.in-Some.ensures.0 is.1 c.in-Some.ensures.1 e in
    omega (arith, same, is.1)
