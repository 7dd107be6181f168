-- Words and an input have one answer's status.
use Rattle.std.proofs.Common.{◌≡◌, ℕ, ◌⊎◌, List, sym, ap, subst, ◌∙◌, inl, inr, None, Some, Option, IfSome, drop, arith}
use Rattle.graph_core.specs.Graph.{GraphValue, IsGraph}
use Rattle.problem_defs.specs.Ask.{misfit_of}
use Rattle.problem_defs.specs.declared.ask.Ask.{Ask}
use Rattle.connect_words.specs.Asks.{asked}
use Rattle.connect_words.proofs.MeaningLemmas.{one_command}
use Rattle.graph_text.specs.Reading.{ReadsText, IsTextAlone}
use Rattle.graph_text.specs.declared.refusal.Why.{Why}
use Rattle.graph_text.proofs.LawLemmas.{one_text, one_fault, not_both, one_text_alone, one_fault_alone, not_both_alone}
use Rattle.certificate_checker.proofs.OneAnswer.{accepted-alone}
use Rattle.connect_words.specs.declared.command.Command.{Command}
use Rattle.connect_words.specs.declared.command.Command.TheVariants.{Check, Trial}
use Rattle.connect_run.specs.declared.status.Status.{Status}
use Rattle.connect_run.specs.declared.status.Status.TheVariants.{Done, Rejected, WriteFault, NoMemory}
use Rattle.connect_run.specs.FaultCase.{FaultOf, fault_status}
use Rattle.connect_run.specs.CheckCase.{AnswersAccepted, AnswersRejected, AnswersCheck}
use Rattle.connect_run.specs.UnsuitedCase.{AnswersUnsuited}
use Rattle.connect_run.specs.SolvedCase.{AnswersSolved}
use Rattle.connect_run.specs.TrialCase.{AnswersTrial, trial_graph}
use Rattle.connect_words.specs.Trials.{trial_ask}
use Rattle.connect_words.specs.declared.command.TrialKind.{TrialKind}
use Rattle.connect_run.specs.Saying.{Replies}
use Rattle.connect_run.specs.Answer.{IsAnswer, AnswersInput, AnswersText, AnswersGraph, AnswersReading, AnswersCommand}
use Rattle.connect_run.specs.Run.{TellsAsk, TellsTrialOf, WritesAnswer, Ends, Fails, IsExact, IsComplete, CanBeSolved, CanBeChecked}
use Rattle.connect_run.proofs.CommandLemmas.{command-not-bad}
use Rattle.connect_run.proofs.StatusLemmas.{verdict-tells, one-verdict, writes-whole}

-- what is solved tells whether there is an object
solved-tells : (g : GraphValue) (ask : Ask) (text : List ℕ) (status : Status) → AnswersSolved g ask text status → TellsAsk g ask status
solved-tells g ask text status solved = subst (λ x. TellsAsk g x status) solved.asks (subst (TellsAsk g solved.cert.ask) (sym solved.status_is) (verdict-tells g solved.cert.ask solved.cert.body solved.meets.object solved.best))

solved-once : (g : GraphValue) (ask : Ask) (text other : List ℕ) (a b : Status) → AnswersSolved g ask text a → AnswersSolved g ask other b → a ≡ b
solved-once g ask text other a b first second =
    one-verdict g ask a b (solved-tells g ask text a first) (solved-tells g ask other b second)

-- an ask that suits isn't refused
suited-once : (g : GraphValue) (ask : Ask) (text other : List ℕ) (a b : Status) → AnswersUnsuited g ask text a → AnswersSolved g ask other b → ⊥
suited-once g ask text other a b unsuited solved =
    let suits : misfit_of g ask ≡ None = subst (λ x. misfit_of g x ≡ None) solved.asks solved.meets.shaped.suits in
    let clash : None ≡ Some unsuited.misfit = sym suits ∙ unsuited.unsuited in
    cc

one_ask_status : (g : GraphValue) (ask : Ask) (text other : List ℕ) (a b : Status) → AnswersUnsuited g ask text a ⊎ AnswersSolved g ask text a → AnswersUnsuited g ask other b ⊎ AnswersSolved g ask other b → a ≡ b
one_ask_status g ask text other a b (inl first) (inl second) = first.status_is ∙ sym second.status_is
one_ask_status g ask text other a b (inl first) (inr second) = absurd (suited-once g ask text other a b first second)
one_ask_status g ask text other a b (inr first) (inl second) = absurd (suited-once g ask other text b a second first)
one_ask_status g ask text other a b (inr first) (inr second) = solved-once g ask text other a b first second

-- a command asks one thing
one_ask : (g : GraphValue) (words : List (List ℕ)) (command : Command) (a b : Ask) → asked g words command ≡ Some a → asked g words command ≡ Some b → a ≡ b
one_ask g words command a b first second = let same : Some a ≡ Some b = sym first ∙ second in cc

one_graph_status : (command : Command) (words : List (List ℕ)) (g : GraphValue) (text other : List ℕ) (a b : Status) → AnswersGraph command words g text a → AnswersGraph command words g other b → a ≡ b
one_graph_status command words g text other a b (ask, asks, first) (ask', asks', second) =
    one_ask_status g ask text other a b first (subst (λ x. AnswersUnsuited g x other b ⊎ AnswersSolved g x other b) (one_ask g words command ask' ask asks' asks) second)

-- a text that reads is that of a graph
reads-graph : (input : List ℕ) (g : GraphValue) (count : ℕ) → ReadsText input g count → IsGraph g
reads-graph input g count reads = let (last, text, end) = reads.text in text.says.graph

-- what follows a graph isn't both accepted and rejected
accepted-once : (g : GraphValue) (bytes text other : List ℕ) (a b : Status) → IsGraph g → AnswersAccepted g bytes text a → AnswersRejected g bytes other b → ⊥
accepted-once g bytes text other a b graph first second = second.told (accepted-alone g bytes second.why graph first.accepted second.reason)

one_check_status : (g : GraphValue) (bytes text other : List ℕ) (a b : Status) → IsGraph g → AnswersCheck g bytes text a → AnswersCheck g bytes other b → a ≡ b
one_check_status g bytes text other a b graph (inl first) (inl second) = first.status_is ∙ sym second.status_is
one_check_status g bytes text other a b graph (inl first) (inr second) = absurd (accepted-once g bytes text other a b graph first second)
one_check_status g bytes text other a b graph (inr first) (inl second) = absurd (accepted-once g bytes other text b a graph second first)
one_check_status g bytes text other a b graph (inr first) (inr second) = first.status_is ∙ sym second.status_is

one_text_status : (command : Command) (words : List (List ℕ)) (input text other : List ℕ) (a b : Status) → AnswersText command words input text a → AnswersText command words input other b → a ≡ b
one_text_status Check words input text other a b answers answers' =
    let (g, count, reads, first) = answers in
    let (g', count', reads', second) = answers' in
    let (graph, length) = one_text input g' g count' count reads' reads in
    one_check_status g (drop count input) text other a b (reads-graph input g count reads) first
    (subst (λ n. AnswersCheck g (drop n input) other b) length (subst (λ x. AnswersCheck x (drop count' input) other b) graph second))
one_text_status command words input text other a b answers answers' =
    let (g, reads, first) = answers in
    let (g', reads', second) = answers' in
    one_graph_status command words g text other a b first (subst (λ x. AnswersGraph command words x other b) (one_text_alone input g' g reads' reads) second)

-- an input has one first fault, or it is a text
one_fault_of : (command : Command) (input : List ℕ) (i j : ℕ) (why other : Why) → FaultOf command input i why → FaultOf command input j other → why ≡ other
one_fault_of Check input i j why other first second = (one_fault input i j why other first second).1
one_fault_of command input i j why other first second = (one_fault_alone input i j why other first second).1

fault-or-text : (command : Command) (words : List (List ℕ)) (input text : List ℕ) (status : Status) (line : ℕ) (why : Why) → FaultOf command input line why → AnswersText command words input text status → ⊥
fault-or-text Check words input text status line why fault answers = let (g, count, reads, checked) = answers in not_both input g count line why reads fault
fault-or-text command words input text status line why fault answers = let (g, reads, answered) = answers in not_both_alone input g line why reads fault

one_input_status : (command : Command) (words : List (List ℕ)) (input text other : List ℕ) (a b : Status) → AnswersInput command words input text a → AnswersInput command words input other b → a ≡ b
one_input_status command words input text other a b (inl first) (inl second) =
    first.status_is ∙ ap fault_status (one_fault_of command input first.line second.line first.why second.why first.fault second.fault) ∙ sym second.status_is
one_input_status command words input text other a b (inl first) (inr second) = absurd (fault-or-text command words input other b first.line first.why first.fault second)
one_input_status command words input text other a b (inr first) (inl second) = absurd (fault-or-text command words input text a second.line second.why second.fault first)
one_input_status command words input text other a b (inr first) (inr second) = one_text_status command words input text other a b first second

one_reading_status : (command : Command) (words : List (List ℕ)) (input text other : List ℕ) (a b : Status) → AnswersReading command words input text a → AnswersReading command words input other b → a ≡ b
one_reading_status command words input text other a b (inl first) (inl second) = first.status_is ∙ sym second.status_is
one_reading_status command words input text other a b (inl first) (inr (short, second)) = absurd (omega (arith, first.long, short))
one_reading_status command words input text other a b (inr (short, first)) (inl second) = absurd (omega (arith, second.long, short))
one_reading_status command words input text other a b (inr (short, first)) (inr (short', second)) = one_input_status command words input text other a b first second

one_command_status : (command : Command) (words : List (List ℕ)) (input text other : List ℕ) (a b : Status) → AnswersCommand command words input text a → AnswersCommand command words input other b → a ≡ b
one_command_status (Trial kind nodes number) words input text other a b first second =
    solved-once (trial_graph kind nodes number) (trial_ask kind nodes) first.certificate second.certificate a b first.solved second.solved
one_command_status command words input text other a b first second = one_reading_status command words input text other a b first second

pub one_status : (words : List (List ℕ)) (input text other : List ℕ) (a b : Status) → IsAnswer words input text a → IsAnswer words input other b → a ≡ b
one_status words input text other a b (inl first) (inl second) = first.status_is ∙ sym second.status_is
one_status words input text other a b (inl first) (inr (command, commands, second)) = absurd (command-not-bad words first.place first.bad (command, commands))
one_status words input text other a b (inr (command, commands, first)) (inl second) = absurd (command-not-bad words second.place second.bad (command, commands))
one_status words input text other a b (inr (command, commands, first)) (inr (command', commands', second)) =
    one_command_status command words input text other a b first
    (subst (λ x. AnswersCommand x words input other b) (one_command words command' command commands' commands) second)

-- a graph whose ask suits it has no answer but a certificate
solved_graph : (command : Command) (words : List (List ℕ)) (input : List ℕ) (g : GraphValue) (text : List ℕ) (status : Status) (solvable : CanBeSolved words input) → command ≡ solvable.command → IsTextAlone input g → AnswersGraph command words g text status → TellsAsk solvable.g solvable.ask status
solved_graph command words input g text status solvable same reads (ask, asks, inl unsuited) =
    let graph : g ≡ solvable.g = one_text_alone input g solvable.g reads solvable.reads in
    let asks' : asked solvable.g words solvable.command ≡ Some ask = subst (λ x. asked solvable.g words x ≡ Some ask) same (subst (λ x. asked x words command ≡ Some ask) graph asks) in
    let ask_is : ask ≡ solvable.ask = one_ask solvable.g words solvable.command ask solvable.ask asks' solvable.asks in
    let misfit : misfit_of solvable.g solvable.ask ≡ Some unsuited.misfit = subst (λ x. misfit_of solvable.g x ≡ Some unsuited.misfit) ask_is (subst (λ x. misfit_of x ask ≡ Some unsuited.misfit) graph unsuited.unsuited) in
    let clash : None ≡ Some unsuited.misfit = sym solvable.suits ∙ misfit in
    cc
solved_graph command words input g text status solvable same reads (ask, asks, inr solved) =
    let graph : g ≡ solvable.g = one_text_alone input g solvable.g reads solvable.reads in
    let asks' : asked solvable.g words solvable.command ≡ Some ask = subst (λ x. asked solvable.g words x ≡ Some ask) same (subst (λ x. asked x words command ≡ Some ask) graph asks) in
    let ask_is : ask ≡ solvable.ask = one_ask solvable.g words solvable.command ask solvable.ask asks' solvable.asks in
    subst (λ x. TellsAsk solvable.g x status) ask_is (subst (λ x. TellsAsk x ask status) graph (solved-tells g ask text status solved))

-- a graph text whose ask suits it has no answer but a certificate
solved_text : (command : Command) (words : List (List ℕ)) (input text : List ℕ) (status : Status) (solvable : CanBeSolved words input) → command ≡ solvable.command → AnswersText command words input text status → TellsAsk solvable.g solvable.ask status
solved_text Check words input text status solvable same answers =
    let asks : asked solvable.g words Check ≡ Some solvable.ask = subst (λ x. asked solvable.g words x ≡ Some solvable.ask) (sym same) solvable.asks in
    absurd cc
solved_text command words input text status solvable same answers =
    let (g, reads, answered) = answers in
    solved_graph command words input g text status solvable same reads answered

-- and no fault
solved-sound : (command : Command) (words : List (List ℕ)) (input : List ℕ) (line : ℕ) (why : Why) (solvable : CanBeSolved words input) → command ≡ solvable.command → FaultOf command input line why → ⊥
solved-sound Check words input line why solvable same fault =
    let asks : asked solvable.g words Check ≡ Some solvable.ask = subst (λ x. asked solvable.g words x ≡ Some solvable.ask) (sym same) solvable.asks in
    cc
solved-sound command words input line why solvable same fault = not_both_alone input solvable.g line why solvable.reads fault

solved_reading : (command : Command) (words : List (List ℕ)) (input text : List ℕ) (status : Status) (solvable : CanBeSolved words input) → command ≡ solvable.command → AnswersReading command words input text status → TellsAsk solvable.g solvable.ask status
solved_reading command words input text status solvable same (inl long) = absurd (omega (arith, long.long, solvable.short))
solved_reading command words input text status solvable same (inr (short, inl fault)) = absurd (solved-sound command words input fault.line fault.why solvable same fault.fault)
solved_reading command words input text status solvable same (inr (short, inr answers)) = solved_text command words input text status solvable same answers

solved_status : (command : Command) (words : List (List ℕ)) (input text : List ℕ) (status : Status) (solvable : CanBeSolved words input) → command ≡ solvable.command → AnswersCommand command words input text status → TellsAsk solvable.g solvable.ask status
solved_status (Trial kind nodes number) words input text status solvable same answers =
    let asks : asked solvable.g words (Trial kind nodes number) ≡ Some solvable.ask = subst (λ x. asked solvable.g words x ≡ Some solvable.ask) (sym same) solvable.asks in
    absurd cc
solved_status command words input text status solvable same answers = solved_reading command words input text status solvable same answers

pub solvable_status : (words : List (List ℕ)) (input text : List ℕ) (status : Status) → (solvable : CanBeSolved words input) → IsAnswer words input text status → TellsAsk solvable.g solvable.ask status
solvable_status words input text status solvable (inl bad) = absurd (command-not-bad words bad.place bad.bad (solvable.command, solvable.commands))
solvable_status words input text status solvable (inr (command, commands, answers)) =
    solved_status command words input text status solvable (one_command words command solvable.command commands solvable.commands) answers

-- what follows a graph is accepted or rejected
checked_status : (words : List (List ℕ)) (input text : List ℕ) (status : Status) → CanBeChecked words input → AnswersCommand Check words input text status → (status ≡ Done) ⊎ (status ≡ Rejected)
checked_status words input text status checkable (inl long) = absurd (omega (arith, long.long, checkable.short))
checked_status words input text status checkable (inr (short, inl fault)) = absurd (not_both input checkable.g checkable.count fault.line fault.why checkable.reads fault.fault)
checked_status words input text status checkable (inr (short, inr (g, count, reads, inl accepted))) = inl accepted.status_is
checked_status words input text status checkable (inr (short, inr (g, count, reads, inr rejected))) = inr rejected.status_is

pub checkable_status : (words : List (List ℕ)) (input text : List ℕ) (status : Status) → CanBeChecked words input → IsAnswer words input text status → (status ≡ Done) ⊎ (status ≡ Rejected)
checkable_status words input text status checkable (inl bad) = absurd (command-not-bad words bad.place bad.bad (Check, checkable.checks))
checkable_status words input text status checkable (inr (command, commands, answers)) =
    checked_status words input text status checkable (subst (λ x. AnswersCommand x words input text status) (one_command words command Check commands checkable.checks) answers)

-- what was written whole fixes the status
pub exact : (words : List (List ℕ)) (left old new : Option (List ℕ)) (result : Status) → WritesAnswer words left old new result → IfSome left (λ input. IsExact words input result)
exact words None old new result writes = tt
exact words (Some bytes) old new result writes = λ text status answer. elim (writes-whole words (Some bytes) old new result writes) [
  | inl fault ↦ inr fault
  | inr whole ↦
      (let (said, answers, grows) = whole in
      let (input, told, answer') = answers in
      inl (one_status words bytes said text result status (subst (λ x. IsAnswer words x said result) told answer') answer))
]

solves : (words : List (List ℕ)) (bytes : List ℕ) (old new : Option (List ℕ)) (result : Status) → WritesAnswer words (Some bytes) old new result → (solvable : CanBeSolved words bytes) → TellsAsk solvable.g solvable.ask result ⊎ Fails result
solves words bytes old new result writes solvable = elim (writes-whole words (Some bytes) old new result writes) [
  | inl fault ↦ inr fault
  | inr whole ↦
      (let (said, answers, grows) = whole in
      let (input, told, answer') = answers in
      inl (solvable_status words bytes said result solvable (subst (λ x. IsAnswer words x said result) told answer')))
]

checks : (words : List (List ℕ)) (bytes : List ℕ) (old new : Option (List ℕ)) (result : Status) → WritesAnswer words (Some bytes) old new result → CanBeChecked words bytes → Ends result Done ⊎ Ends result Rejected
checks words bytes old new result writes checkable = elim (writes-whole words (Some bytes) old new result writes) [
  | inl fault ↦ inl (inr fault)
  | inr whole ↦
      (let (said, answers, grows) = whole in
      let (input, told, answer') = answers in
      elim (checkable_status words bytes said result checkable (subst (λ x. IsAnswer words x said result) told answer')) [
        | inl done ↦ inl (inl done)
        | inr rejected ↦ inr (inl rejected)
      ])
]

pub complete : (words : List (List ℕ)) (left old new : Option (List ℕ)) (result : Status) → WritesAnswer words left old new result → IfSome left (λ input. IsComplete words input result)
complete words None old new result writes = tt
complete words (Some bytes) old new result writes = record { solved = solves words bytes old new result writes; checked = checks words bytes old new result writes }

-- a reply to a trial tells whether its graph has an object
pub trial-tells : (kind : TrialKind) (nodes number : ℕ) (old new : Option (List ℕ)) (result : Status) → Replies (AnswersTrial kind nodes number) old new result → TellsTrialOf kind nodes number result
trial-tells kind nodes number old new result (inl (text, status, answers, inl (same, grows))) =
    inl (subst (TellsAsk (trial_graph kind nodes number) (trial_ask kind nodes)) (sym same) (solved-tells (trial_graph kind nodes number) (trial_ask kind nodes) answers.certificate status answers.solved))
trial-tells kind nodes number old new result (inl (text, status, answers, inr (same, part))) = inr (inl same)
trial-tells kind nodes number old new result (inr (same, kept)) = inr (inr same)
