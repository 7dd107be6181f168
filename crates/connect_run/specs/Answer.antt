-- The text and the status that answer words and an input: the first case that applies.
use Rattle.std.specs.Prelude.{ℕ, ◌≡◌, ◌≤◌, ◌⊎◌, List, Some, length, drop}
use Rattle.graph_core.specs.Graph.{GraphValue}
use Rattle.graph_text.specs.Reading.{ReadsText, IsTextAlone}
use Rattle.problem_defs.specs.declared.ask.Ask.{Ask}
use Rattle.connect_words.specs.Asks.{asked}
use Rattle.connect_words.specs.declared.command.Command.{Command}
use Rattle.connect_words.specs.declared.command.Command.TheVariants.{Check, Trial}
use Rattle.connect_words.specs.Commands.{Writes}
use Rattle.connect_run.specs.WordsCase.{AnswersBadWords}
use Rattle.connect_run.specs.LargeCase.{AnswersTooLong, limit}
use Rattle.connect_run.specs.FaultCase.{AnswersFault}
use Rattle.connect_run.specs.CheckCase.{AnswersCheck}
use Rattle.connect_run.specs.UnsuitedCase.{AnswersUnsuited}
use Rattle.connect_run.specs.SolvedCase.{AnswersSolved}
use Rattle.connect_run.specs.TrialCase.{AnswersTrial}
use Rattle.connect_run.specs.declared.status.Status.{Status}

-- the answer to a graph: what the command asks doesn't suit it, or is solved
abbrev pub AnswersGraph : Command → List (List ℕ) → GraphValue → List ℕ → Status → Type 0
AnswersGraph command words g text status =
    (ask : Ask) × (asked g words command ≡ Some ask) × (AnswersUnsuited g ask text status ⊎ AnswersSolved g ask text status)

-- the answer to a graph text: what follows it is checked, or its graph is answered
abbrev pub AnswersText : Command → List (List ℕ) → List ℕ → List ℕ → Status → Type 0
AnswersText Check words input text status = (g : GraphValue) × (count : ℕ) × ReadsText input g count × AnswersCheck g (drop count input) text status
AnswersText command words input text status = (g : GraphValue) × IsTextAlone input g × AnswersGraph command words g text status

-- the answer to an input that isn't too long: it is no graph text, or it is one
abbrev pub AnswersInput : Command → List (List ℕ) → List ℕ → List ℕ → Status → Type 0
AnswersInput command words input text status = AnswersFault command input text status ⊎ AnswersText command words input text status

-- the answer to a command that reads an input
abbrev pub AnswersReading : Command → List (List ℕ) → List ℕ → List ℕ → Status → Type 0
AnswersReading command words input text status =
    AnswersTooLong input text status
    ⊎ ((length input ≤ limit) × AnswersInput command words input text status)

-- the answer to a command
abbrev pub AnswersCommand : Command → List (List ℕ) → List ℕ → List ℕ → Status → Type 0
AnswersCommand (Trial kind nodes number) words input text status = AnswersTrial kind nodes number text status
AnswersCommand command words input text status = AnswersReading command words input text status

abbrev pub IsAnswer : List (List ℕ) → List ℕ → List ℕ → Status → Type 0
IsAnswer words input text status =
    AnswersBadWords words text status
    ⊎ ((command : Command) × Writes command words × AnswersCommand command words input text status)
