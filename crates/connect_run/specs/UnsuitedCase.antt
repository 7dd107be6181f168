-- An ask that doesn't suit the graph.
use Rattle.std.specs.Prelude.{ℕ, ◌≡◌, List, ◌++◌, Some, codes}
use Rattle.graph_core.specs.Graph.{GraphValue}
use Rattle.problem_defs.specs.Ask.{misfit_of}
use Rattle.problem_defs.specs.declared.ask.Ask.{Ask}
use Rattle.problem_defs.specs.declared.ask.Misfit.{Misfit}
use Rattle.problem_defs.specs.declared.ask.Misfit.TheVariants.{Kind, Node, Same, Small}
use Rattle.connect_run.specs.declared.status.Status.{Status}
use Rattle.connect_run.specs.declared.status.Status.TheVariants.{Unsuited}

abbrev pub misfit_word : Misfit → List ℕ
misfit_word Kind = codes "kind"
misfit_word Node = codes "node"
misfit_word Same = codes "same"
misfit_word Small = codes "small"

abbrev pub unsuited_text : Misfit → List ℕ
unsuited_text misfit = codes "unsuited " ++ (misfit_word misfit ++ codes "\n")

-- the first reason for which it doesn't
pub record AnswersUnsuited (g : GraphValue) (ask : Ask) (text : List ℕ) (status : Status) : Type 0 where
  pub misfit : Misfit
  pub unsuited : misfit_of g ask ≡ Some misfit
  pub status_is : status ≡ Unsuited
  pub text_is : text ≡ unsuited_text misfit
