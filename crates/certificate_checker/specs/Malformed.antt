-- Texts that are rejected at a line.
use Rattle.std.specs.Prelude.{◌≡◌, ◌≢◌, ◌⊎◌, ℕ, ◌+◌, List, [], ◌++◌, length}
use Rattle.graph_core.specs.Graph.{GraphValue}
use Rattle.problem_defs.specs.Shaped.{IsShaped}
use Rattle.problem_defs.specs.declared.cert.Cert.{Cert}
use Rattle.certificate_text.specs.BadLine.{IsBad}
use Rattle.certificate_text.specs.Text.{text, byte_lines}

-- Bytes follow the text of a certificate, and the line is the first after it.
pub record GoesOn (g : GraphValue) (bytes : List ℕ) (line : ℕ) : Type 0 where
  pub cert : Cert
  pub shaped : IsShaped g cert
  pub rest : List ℕ
  pub is : bytes ≡ text g cert ++ rest
  pub more : rest ≢ []
  pub line_is : line ≡ length (byte_lines g cert) + 1

-- no certificate text is at the front, and this is the first line at which none goes on; or one is there, and goes on
abbrev pub IsMalformed : GraphValue → List ℕ → ℕ → Type 0
IsMalformed g bytes line = IsBad g bytes line ⊎ GoesOn g bytes line
