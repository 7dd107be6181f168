-- How many lines a text has.
use Rattle.std.proofs.Common.{◌≡◌, ℕ, ◌+◌, ◌==◌, Bool, true, false, cond, List, [], ◌∷◌, length, refl, sym, ap, ◌∙◌, append-nil, arith}
use Rattle.std.specs.Prelude.{count_by}
use Rattle.std.proofs.lemmas.List.Sums.{sum_by-cons}
use Rattle.graph_core.specs.Graph.{GraphValue, IsGraph}
use Rattle.problem_defs.specs.Shaped.{IsShaped}
use Rattle.problem_defs.specs.declared.cert.Cert.{Cert}
use Rattle.certificate_text.specs.BadLine.{whole_lines, onto_whole}
use Rattle.certificate_text.specs.Lines.{lines}
use Rattle.certificate_text.specs.Text.{text, byte_lines}
use Rattle.certificate_text.proofs.TextLaws.{whole-text}
use Rattle.certificate_text.proofs.ValidLaws.{valid-lines}

length-onto : (byte : ℕ) (ls : List (List ℕ)) → length (onto_whole byte ls) ≡ length ls
length-onto byte [] = refl
length-onto byte (l ∷ ls) = refl

at-byte : (is_feed : Bool) (byte : ℕ) (ls : List (List ℕ)) → length (cond is_feed ([] ∷ ls) (onto_whole byte ls)) ≡ cond is_feed 1 0 + length ls
at-byte true byte ls = omega arith
at-byte false byte ls = length-onto byte ls ∙ omega arith

pub length-whole_lines : (bytes : List ℕ) → length (whole_lines bytes) ≡ count_by (λ b. b == 10) bytes
length-whole_lines [] = refl
length-whole_lines (b ∷ bytes) = at-byte (b == 10) b (whole_lines bytes) ∙ ap (λ n. cond (b == 10) 1 0 + n) (length-whole_lines bytes) ∙ sym (sum_by-cons (λ x. cond (x == 10) 1 0) b bytes)

pub whole_lines-text : (g : GraphValue) (cert : Cert) → IsGraph g → IsShaped g cert → whole_lines (text g cert) ≡ byte_lines g cert
whole_lines-text g cert is shaped = ap whole_lines (sym (append-nil (text g cert))) ∙ whole-text g (lines g cert) [] is (valid-lines g cert is shaped) ∙ append-nil (byte_lines g cert)
