-- An ask that suits the graph: a certificate is written.
use Rattle.std.specs.Prelude.{ℕ, ◌≡◌, List}
use Rattle.graph_core.specs.Graph.{GraphValue}
use Rattle.problem_defs.specs.Best.{IsBest}
use Rattle.problem_defs.specs.Meets.{Meets}
use Rattle.problem_defs.specs.declared.ask.Ask.{Ask}
use Rattle.problem_defs.specs.declared.cert.Body.{Body}
use Rattle.problem_defs.specs.declared.cert.Body.TheVariants.{Never}
use Rattle.problem_defs.specs.declared.cert.Cert.{Cert}
use Rattle.certificate_text.specs.Text as certificate
use Rattle.connect_run.specs.declared.status.Status.{Status}
use Rattle.connect_run.specs.declared.status.Status.TheVariants.{Done, Impossible}

-- a body that forbids every object, or one with an object
abbrev pub verdict : Body → Status
verdict (Never side) = Impossible
verdict other = Done

-- The text is that of a certificate for the ask. It meets the graph, so that its ask suits the graph, and nothing feasible is better.
pub record AnswersSolved (g : GraphValue) (ask : Ask) (text : List ℕ) (status : Status) : Type 0 where
  pub cert : Cert
  pub asks : cert.ask ≡ ask
  pub meets : Meets g cert
  pub best : IsBest g cert.ask cert.body
  pub status_is : status ≡ verdict cert.body
  pub text_is : text ≡ certificate.text g cert
