-- Where a certificate text ends.
use Rattle.std.proofs.Common.{◌≡◌, ℕ, ◌+◌, ◌<◌, List, length, take, ap, ◌∙◌, length-append, arith}
use Rattle.std.proofs.Math.Seq.{take-append_seam}
use Rattle.graph_core.specs.Graph.{GraphValue, IsGraph}
use Rattle.problem_defs.specs.declared.cert.Cert.{Cert}
use Rattle.certificate_text.specs.BadLine.{whole_lines}
use Rattle.certificate_text.specs.Front.{IsAtFront}
use Rattle.certificate_text.specs.Text.{text}
use Rattle.certificate_checker.specs.Malformed.{GoesOn}
use Rattle.certificate_checker.proofs.LineCounts.{whole_lines-text}

-- bytes behind the text are at the line after its lines
pub goes-on : (g : GraphValue) (bytes : List ℕ) (cert : Cert) (count line : ℕ) → IsGraph g → IsAtFront g bytes cert count → count < length bytes → line ≡ length (whole_lines (take count bytes)) + 1 → GoesOn g bytes line
goes-on g bytes cert count line graph front within line_is =
    let long : length bytes ≡ length (text g cert) + length front.rest = ap length front.is ∙ length-append (text g cert) front.rest in
    let own : take count bytes ≡ text g cert = ap (λ n. take n bytes) front.count_is ∙ ap (take (length (text g cert))) front.is ∙ take-append_seam (text g cert) front.rest in
    record {
      cert = cert;
      shaped = front.shaped;
      rest = front.rest;
      is = front.is;
      more = λ none. let e : length front.rest ≡ 0 = ap length none in let f = front.count_is in omega arith;
      line_is = line_is ∙ ap (λ ls. length ls + 1) (ap whole_lines own ∙ whole_lines-text g cert graph front.shaped);
    }
