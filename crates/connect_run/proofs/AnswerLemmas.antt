-- From what is said to what is written.
use Rattle.std.proofs.Common.{true, ◌≡◌, ℕ, ◌+◌, ◌<◌, ◌≤◌, List, [], ◌++◌, length, refl, sym, ap, subst, ◌∙◌, inl, inr, None, Some, Option, IfSome, arith, append-nil, length-append}
use Rattle.std.specs.Io.KnownBytes.{Consumes, IsAtEnd}
use Rattle.connect_words.specs.declared.command.Command.{Command}
use Rattle.connect_run.specs.declared.status.Status.{Status}
use Rattle.connect_words.specs.Commands.{Solves, Writes}
use Rattle.connect_run.specs.Reading.{reads_input}
use Rattle.connect_run.specs.LargeCase.{limit}
use Rattle.graph_core.specs.Graph.{GraphValue}
use Rattle.graph_text.specs.Reading.{IsTextAlone, IsFaultAlone}
use Rattle.graph_text.specs.declared.refusal.Why.{Why}
use Rattle.connect_words.specs.declared.command.Command.TheVariants.{Check, Trial}
use Rattle.connect_run.specs.FaultCase.{FaultOf, AnswersFault, fault_status, fault_text}
use Rattle.connect_run.specs.Answer.{AnswersInput, AnswersText, AnswersGraph, AnswersReading, AnswersCommand}
use Rattle.connect_run.specs.Run.{AnswersLeft, WritesAnswer}
use Rattle.connect_run.specs.Saying.{Says, Replies}
use Rattle.connect_run.proofs.StatusLemmas.{answer-told, whole-writes}

-- what is said is written
pub says-writes : (words : List (List ℕ)) (left old new : Option (List ℕ)) (text : List ℕ) (status result : Status) → AnswersLeft words left text status → Says old new text status result → WritesAnswer words left old new result
says-writes words left old new text status result (input, told, answer) (inl (same, grows)) =
    subst (WritesAnswer words left old new) (sym same) (whole-writes words left old new status (answer-told words input text status answer) (text, (input, told, answer), grows))
says-writes words left old new text status result answers (inr (same, part)) = subst (WritesAnswer words left old new) (sym same) (text, status, answers, part)

-- what a command that reads is answered with
pub reading-answers : (command : Command) → reads_input command ≡ true → (words : List (List ℕ)) (input text : List ℕ) (status : Status) → AnswersReading command words input text status → AnswersCommand command words input text status
reading-answers (Trial kind nodes number) reads words input text status answers = absurd cc
reading-answers command reads words input text status answers = answers

-- a reply to a command is written
pub replies-writes : (words : List (List ℕ)) (command : Command) (left old new : Option (List ℕ)) (input : List ℕ) (result : Status) → Writes command words → IfSome left (λ bytes. input ≡ bytes)
    → Replies (AnswersCommand command words input) old new result → WritesAnswer words left old new result
replies-writes words command left old new input result commands told (inl (text, status, answers, said)) =
    says-writes words left old new text status result (input, told, inr (command, commands, answers)) said
replies-writes words command left old new input result commands told (inr (same, kept)) = subst (WritesAnswer words left old new) (sym same) kept

-- what one relation answers, a weaker one does
pub replies-weaker : (P Q : List ℕ → Status → Type 0) → ((text : List ℕ) (status : Status) → P text status → Q text status) → (old new : Option (List ℕ)) (result : Status) → Replies P old new result → Replies Q old new result
replies-weaker P Q weaker old new result (inl (text, status, answers, said)) = inl (text, status, weaker text status answers, said)
replies-weaker P Q weaker old new result (inr out) = inr out

-- a graph text and a fault are what the command makes of them
pub text-of : (command : Command) → Solves command → (words : List (List ℕ)) (input : List ℕ) (g : GraphValue) (text : List ℕ) (status : Status) → IsTextAlone input g → AnswersGraph command words g text status → AnswersText command words input text status
text-of Check solves words input g text status reads answers = absurd (solves.0 refl)
text-of command solves words input g text status reads answers = (g, reads, answers)

pub fault-of : (command : Command) → Solves command → (input : List ℕ) (line : ℕ) (why : Why) → IsFaultAlone input line why → FaultOf command input line why
fault-of Check solves input line why fault = absurd (solves.0 refl)
fault-of command solves input line why fault = fault

-- a fault is answered, by its line and cause under other names
pub faults : (command : Command) (input text : List ℕ) (status : Status) (line line' : ℕ) (why why' : Why) → line' ≡ line → why' ≡ why → FaultOf command input line why → status ≡ fault_status why' → text ≡ fault_text line' why' → AnswersFault command input text status
faults command input text status line line' why why' l w fault status_is text_is =
    record { line = line; why = why; fault = fault; status_is = status_is ∙ ap fault_status w; text_is = text_is ∙ ap (λ x. fault_text x why') l ∙ ap (fault_text line) w }

-- an input for a source that tells it or doesn't
pub some_input : (left : Option (List ℕ)) → (input : List ℕ) × IfSome left (λ bytes. input ≡ bytes)
some_input None = ([], tt)
some_input (Some bytes) = (bytes, refl)

-- a source that has ended has given all that it had
pub whole_input : (old new : Option (List ℕ)) (bytes : List ℕ) → Consumes old new bytes → IsAtEnd new → IfSome old (λ xs. bytes ≡ xs)
whole_input None new bytes taken ended = tt
whole_input (Some xs) None bytes taken ended = absurd taken
whole_input (Some xs) (Some ys) bytes taken ended = sym (taken ∙ ap (λ l. bytes ++ l) ended ∙ append-nil bytes)

-- a source that has given too many bytes had too many
pub long_input : (old new : Option (List ℕ)) (taken : List ℕ) → Consumes old new taken → length taken ≡ limit + 1 → (input : List ℕ) × IfSome old (λ xs. input ≡ xs) × (limit < length input)
long_input None new taken consumed many = (taken, tt, omega (arith, many))
long_input (Some xs) None taken consumed many = absurd consumed
long_input (Some xs) (Some ys) taken consumed many = (xs, refl, omega (arith, ap length consumed ∙ length-append taken ys, many))
