-- A certificate behind a graph.
use Rattle.std.specs.Prelude.{ℕ, ◌≡◌, ◌≢◌, ◌⊎◌, List, ◌++◌, codes, decimal}
use Rattle.graph_core.specs.Graph.{GraphValue}
use Rattle.certificate_checker.specs.Accepted.{IsAccepted}
use Rattle.certificate_checker.specs.Reason.{IsReason}
use Rattle.certificate_checker.specs.declared.rejection.Rejection.{Rejection}
use Rattle.certificate_checker.specs.declared.rejection.Rejection.TheVariants.{Malformed, Infeasible, BadDual, Gap, NoMemory}
use Rattle.connect_run.specs.declared.status.Status.{Status}
use Rattle.connect_run.specs.declared.status.Status.TheVariants.{Done, Rejected}

abbrev pub malformed_text : ℕ → List ℕ
malformed_text line = codes "rejected malformed " ++ (decimal line ++ codes "\n")

abbrev pub rejected_text : Rejection → List ℕ
rejected_text (Malformed line) = malformed_text line
rejected_text Infeasible = codes "rejected infeasible\n"
rejected_text BadDual = codes "rejected dual\n"
rejected_text Gap = codes "rejected gap\n"
rejected_text NoMemory = codes ""

-- the bytes behind the graph are exactly the text of a certificate that meets it
pub record AnswersAccepted (g : GraphValue) (bytes text : List ℕ) (status : Status) : Type 0 where
  pub accepted : IsAccepted g bytes
  pub status_is : status ≡ Done
  pub text_is : text ≡ codes "accepted\n"

-- they aren't, and this is the first reason
pub record AnswersRejected (g : GraphValue) (bytes text : List ℕ) (status : Status) : Type 0 where
  pub why : Rejection
  pub told : why ≢ NoMemory
  pub reason : IsReason g bytes why
  pub status_is : status ≡ Rejected
  pub text_is : text ≡ rejected_text why

abbrev pub AnswersCheck : GraphValue → List ℕ → List ℕ → Status → Type 0
AnswersCheck g bytes text status = AnswersAccepted g bytes text status ⊎ AnswersRejected g bytes text status
