-- Texts of certificates that don't meet the graph.
use Rattle.std.specs.Prelude.{◌≡◌, ℕ, List}
use Rattle.graph_core.specs.Graph.{GraphValue}
use Rattle.problem_defs.specs.Meets.{HasObject, HasDual, HasValue}
use Rattle.problem_defs.specs.Shaped.{IsShaped}
use Rattle.problem_defs.specs.declared.cert.Cert.{Cert}
use Rattle.certificate_text.specs.Text.{text}

-- the bytes are the text of this certificate, which is shaped
pub record IsTextOf (g : GraphValue) (cert : Cert) (bytes : List ℕ) : Type 0 where
  pub shaped : IsShaped g cert
  pub is : bytes ≡ text g cert

-- the object isn't feasible
pub record IsInfeasible (g : GraphValue) (bytes : List ℕ) : Type 0 where
  pub cert : Cert
  pub whole : IsTextOf g cert bytes
  pub object : ¬ HasObject g cert.ask cert.body

-- the object is feasible, but the dual isn't
pub record HasBadDual (g : GraphValue) (bytes : List ℕ) : Type 0 where
  pub cert : Cert
  pub whole : IsTextOf g cert bytes
  pub object : HasObject g cert.ask cert.body
  pub dual : ¬ HasDual g cert.ask cert.body

-- both are feasible, but the value isn't that of both
pub record HasGap (g : GraphValue) (bytes : List ℕ) : Type 0 where
  pub cert : Cert
  pub whole : IsTextOf g cert bytes
  pub object : HasObject g cert.ask cert.body
  pub dual : HasDual g cert.ask cert.body
  pub value : ¬ HasValue g cert.ask cert.body
