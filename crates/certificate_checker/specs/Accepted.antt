-- Texts that are accepted.
use Rattle.std.specs.Prelude.{◌≡◌, ℕ, List}
use Rattle.graph_core.specs.Graph.{GraphValue}
use Rattle.problem_defs.specs.Meets.{Meets}
use Rattle.problem_defs.specs.declared.cert.Cert.{Cert}
use Rattle.certificate_text.specs.Text.{text}

-- the text of a certificate that meets the graph, and nothing after it
pub record IsAccepted (g : GraphValue) (bytes : List ℕ) : Type 0 where
  pub cert : Cert
  pub meets : Meets g cert
  pub is : bytes ≡ text g cert
