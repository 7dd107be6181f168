-- What a run does to its source and its sink.
use Rattle.std.specs.Prelude.{ℕ, ◌≡◌, ◌+◌, ◌≤◌, ◌⊎◌, List, None, Some, length, IfSome}
use Rattle.std.specs.declared.option.Option.{Option}
use Rattle.std.specs.Io.KnownBytes.{Keeps, Appends, Consumes, IsAtEnd}
use Rattle.cn_edge.specs.Whole.{AppendsPart}
use Rattle.graph_core.specs.Graph.{GraphValue}
use Rattle.graph_text.specs.Reading.{ReadsText, IsTextAlone}
use Rattle.connect_words.specs.Asks.{asked}
use Rattle.connect_words.specs.Trials.{trial_ask}
use Rattle.connect_words.specs.declared.command.Command.{Command}
use Rattle.connect_words.specs.declared.command.Command.TheVariants.{Check, Trial}
use Rattle.problem_defs.specs.Ask.{misfit_of}
use Rattle.problem_defs.specs.Impossible.{IsImpossible}
use Rattle.problem_defs.specs.declared.ask.Ask.{Ask}
use Rattle.connect_words.specs.Commands.{Writes}
use Rattle.connect_run.specs.LargeCase.{limit}
use Rattle.connect_words.specs.declared.command.TrialKind.{TrialKind}
use Rattle.connect_run.specs.TrialCase.{trial_graph}
use Rattle.connect_run.specs.Answer.{IsAnswer}
use Rattle.connect_run.specs.declared.status.Status.{Status}
use Rattle.connect_run.specs.declared.status.Status.TheVariants.{Done, Impossible, Rejected, ReadFault, WriteFault, NoMemory}

-- an answer to what the source had left, where it tells it, and else to some input
abbrev pub AnswersLeft : List (List ℕ) → Option (List ℕ) → List ℕ → Status → Type 0
AnswersLeft words left text status = (input : List ℕ) × IfSome left (λ bytes. input ≡ bytes) × IsAnswer words input text status

-- the whole answer is written
abbrev pub WritesWhole : List (List ℕ) → Option (List ℕ) → Option (List ℕ) → Option (List ℕ) → Status → Type 0
WritesWhole words left old new status = (text : List ℕ) × AnswersLeft words left text status × Appends old new text

-- a part of an answer is written that isn't the whole
abbrev pub WritesPart : List (List ℕ) → Option (List ℕ) → Option (List ℕ) → Option (List ℕ) → Type 0
WritesPart words left old new = (text : List ℕ) × (status : Status) × AnswersLeft words left text status × AppendsPart old new text

-- What is written, by the status.
abbrev pub WritesAnswer : List (List ℕ) → Option (List ℕ) → Option (List ℕ) → Option (List ℕ) → Status → Type 0
WritesAnswer words left old new ReadFault = Keeps old new
WritesAnswer words left old new WriteFault = WritesPart words left old new
WritesAnswer words left old new NoMemory = Keeps old new
WritesAnswer words left old new status = WritesWhole words left old new status

-- at most one byte more than an input may have is taken from the front of the source
abbrev pub TakesWithin : Option (List ℕ) → Option (List ℕ) → Type 0
TakesWithin old new = (taken : List ℕ) × Consumes old new taken × (length taken ≤ limit + 1)

-- the source is read to its end, and its input isn't too long
pub record ReadsWithin (old new : Option (List ℕ)) : Type 0 where
  pub short : IfSome old (λ bytes. length bytes ≤ limit)
  pub ended : IsAtEnd new

-- a run that reads leaves no byte of an input that isn't too long
abbrev pub Drains : Option (List ℕ) → Option (List ℕ) → Type 0
Drains old new = IfSome old (λ bytes. length bytes ≤ limit → IsAtEnd new)

-- a fault came or memory ran out
abbrev pub Fails : Status → Type 0
Fails result = (result ≡ ReadFault) ⊎ (result ≡ WriteFault) ⊎ (result ≡ NoMemory)

-- the status is this one, unless a fault came or memory ran out
abbrev pub Ends : Status → Status → Type 0
Ends result status = (result ≡ status) ⊎ Fails result

-- each answer that the words and the input have has this status, unless a fault came or memory ran out
abbrev pub IsExact : List (List ℕ) → List ℕ → Status → Type 0
IsExact words input result = (text : List ℕ) (status : Status) → IsAnswer words input text status → Ends result status

-- What a run that has to succeed is given: a command, an input within the limits that is a graph text, and an ask that suits the graph.
pub record CanBeSolved (words : List (List ℕ)) (input : List ℕ) : Type 0 where
  pub command : Command
  pub commands : Writes command words
  pub short : length input ≤ limit
  pub g : GraphValue
  pub reads : IsTextAlone input g
  pub ask : Ask
  pub asks : asked g words command ≡ Some ask
  pub suits : misfit_of g ask ≡ None

-- what a run that has to accept or reject is given: `check`, and an input within the limits that begins with a graph text
pub record CanBeChecked (words : List (List ℕ)) (input : List ℕ) : Type 0 where
  pub checks : Writes Check words
  pub short : length input ≤ limit
  pub g : GraphValue
  pub count : ℕ
  pub reads : ReadsText input g count

-- the status of an ask that suits the graph: Impossible exactly where the graph has no object for it, and else Done
abbrev pub TellsAsk : GraphValue → Ask → Status → Type 0
TellsAsk g ask status = ((status ≡ Done) × (IsImpossible g ask → ⊥)) ⊎ ((status ≡ Impossible) × IsImpossible g ask)

-- it does succeed, unless a fault came or memory ran out
pub record IsComplete (words : List (List ℕ)) (input : List ℕ) (result : Status) : Type 0 where
  pub solved : (given : CanBeSolved words input) → TellsAsk given.g given.ask result ⊎ Fails result
  pub checked : CanBeChecked words input → Ends result Done ⊎ Ends result Rejected

-- the status of a trial: it tells whether its graph has an object, unless its line isn't written whole or memory ran out
abbrev pub TellsTrialOf : TrialKind → ℕ → ℕ → Status → Type 0
TellsTrialOf kind nodes number result = TellsAsk (trial_graph kind nodes number) (trial_ask kind nodes) result ⊎ (result ≡ WriteFault) ⊎ (result ≡ NoMemory)

abbrev pub TellsTrial : List (List ℕ) → Status → Type 0
TellsTrial words result = (kind : TrialKind) (nodes number : ℕ) → Writes (Trial kind nodes number) words → TellsTrialOf kind nodes number result
