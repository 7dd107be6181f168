-- The certificate whose text is at the front.
use Rattle.std.specs.Prelude.{◌≡◌, ℕ, List, ◌++◌, length}
use Rattle.graph_core.specs.Graph.{GraphValue}
use Rattle.problem_defs.specs.Shaped.{IsShaped}
use Rattle.problem_defs.specs.declared.cert.Cert.{Cert}
use Rattle.certificate_text.specs.Text.{text}

-- The bytes begin with the text of the certificate, which has so many bytes.
pub record IsAtFront (g : GraphValue) (bytes : List ℕ) (cert : Cert) (count : ℕ) : Type 0 where
  pub shaped : IsShaped g cert
  pub rest : List ℕ
  pub is : bytes ≡ text g cert ++ rest
  pub count_is : count ≡ length (text g cert)
