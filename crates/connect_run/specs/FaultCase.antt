-- An input that is no graph text within the limits.
use Rattle.std.specs.Prelude.{ℕ, ◌≡◌, List, ◌++◌, codes, decimal}
use Rattle.graph_text.specs.Reading.{IsFault, IsFaultAlone}
use Rattle.graph_text.specs.declared.refusal.Why.{Why}
use Rattle.graph_text.specs.declared.refusal.Why.TheVariants.{NoHeader, BadLine, WrongKind, BadName, BadNumber, TwiceNode, UnknownNode, Loop, ManyNodes, ManyLines, ManyNumbers, ManyCosts, NoNode, NoEnd}
use Rattle.connect_words.specs.declared.command.Command.{Command}
use Rattle.connect_words.specs.declared.command.Command.TheVariants.{Check}
use Rattle.connect_run.specs.declared.status.Status.{Status}
use Rattle.connect_run.specs.declared.status.Status.TheVariants.{BadGraph, TooLarge}

abbrev pub why_word : Why → List ℕ
why_word NoHeader = codes "header"
why_word BadLine = codes "line"
why_word WrongKind = codes "kind"
why_word BadName = codes "name"
why_word BadNumber = codes "number"
why_word TwiceNode = codes "twice"
why_word UnknownNode = codes "unknown"
why_word Loop = codes "loop"
why_word ManyNodes = codes "nodes"
why_word ManyLines = codes "lines"
why_word ManyNumbers = codes "numbers"
why_word ManyCosts = codes "costs"
why_word NoNode = codes "nonode"
why_word NoEnd = codes "noend"

-- too many nodes or lines, or too much in their numbers or costs
abbrev pub fault_status : Why → Status
fault_status ManyNodes = TooLarge
fault_status ManyLines = TooLarge
fault_status ManyNumbers = TooLarge
fault_status ManyCosts = TooLarge
fault_status other = BadGraph

abbrev pub graph_text : ℕ → Why → List ℕ
graph_text line why = codes "graph " ++ (decimal line ++ (codes " " ++ (why_word why ++ codes "\n")))

abbrev pub large_text : Why → List ℕ
large_text why = codes "large " ++ (why_word why ++ codes "\n")

abbrev pub fault_text : ℕ → Why → List ℕ
fault_text line ManyNodes = large_text ManyNodes
fault_text line ManyLines = large_text ManyLines
fault_text line ManyNumbers = large_text ManyNumbers
fault_text line ManyCosts = large_text ManyCosts
fault_text line why = graph_text line why

-- the first fault of the graph text, counted with what follows the text but for `check`
abbrev pub FaultOf : Command → List ℕ → ℕ → Why → Type 0
FaultOf Check input line why = IsFault input line why
FaultOf command input line why = IsFaultAlone input line why

-- the first fault with its line, where lines are counted from 1
pub record AnswersFault (command : Command) (input text : List ℕ) (status : Status) : Type 0 where
  pub line : ℕ
  pub why : Why
  pub fault : FaultOf command input line why
  pub status_is : status ≡ fault_status why
  pub text_is : text ≡ fault_text line why
