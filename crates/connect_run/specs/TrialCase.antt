-- A trial: what it asks is solved on a graph that is made for it, and one line says what was found.
use Rattle.std.specs.Prelude.{ℕ, ◌≡◌, List, ◌++◌, codes, decimal}
use Rattle.graph_core.specs.Graph.{GraphValue}
use Rattle.connect_gen.specs.Generated.{generated}
use Rattle.connect_words.specs.Trials.{graph_kind, trial_ask}
use Rattle.connect_words.specs.declared.command.TrialKind.{TrialKind}
use Rattle.problem_defs.specs.declared.cert.Body.{Body}
use Rattle.problem_defs.specs.declared.cert.Body.TheVariants.{Walks, Edges, Arcs, Parts, Join, Never}
use Rattle.connect_run.specs.SolvedCase.{AnswersSolved}
use Rattle.connect_run.specs.declared.status.Status.{Status}

abbrev pub trial_graph : TrialKind → ℕ → ℕ → GraphValue
trial_graph kind nodes number = generated (graph_kind kind) nodes number

abbrev pub value_text : ℕ → List ℕ
value_text value = codes "value " ++ (decimal value ++ codes "\n")

-- the value; that there is no object; or that there is one, where it has no value
abbrev pub trial_text : Body → List ℕ
trial_text (Walks value rows cut) = value_text value
trial_text (Edges value pairs sides) = value_text value
trial_text (Arcs value pairs way sides) = value_text value
trial_text (Parts value rows dual) = value_text value
trial_text (Join value numbers sides) = value_text value
trial_text (Never side) = codes "impossible\n"
trial_text other = codes "done\n"

-- The line tells of a certificate that would answer the command on the graph.
pub record AnswersTrial (kind : TrialKind) (nodes number : ℕ) (text : List ℕ) (status : Status) : Type 0 where
  pub certificate : List ℕ
  pub solved : AnswersSolved (trial_graph kind nodes number) (trial_ask kind nodes) certificate status
  pub text_is : text ≡ trial_text solved.cert.body
