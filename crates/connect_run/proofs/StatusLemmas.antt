-- Which statuses answers have.
use Rattle.std.proofs.Common.{◌≡◌, ℕ, ◌⊎◌, List, Bool, true, false, Option, refl, sym, ap, ◌∙◌, inl, inr, drop}
use Rattle.graph_core.specs.Graph.{GraphValue}
use Rattle.graph_text.specs.declared.refusal.Why.{Why}
use Rattle.graph_text.specs.declared.refusal.Why.TheVariants.{ManyNodes, ManyLines, ManyNumbers, ManyCosts}
use Rattle.problem_defs.specs.Best.{IsBest}
use Rattle.problem_defs.specs.Impossible.{IsNever}
use Rattle.problem_defs.proofs.NeverLaw.{object-or-never}
use Rattle.problem_defs.specs.Meets.{HasObject}
use Rattle.problem_defs.specs.declared.ask.Ask.{Ask}
use Rattle.problem_defs.specs.declared.cert.Body.{Body}
use Rattle.problem_defs.specs.declared.cert.Body.TheVariants.{Never}
use Rattle.connect_run.specs.FaultCase.{fault_status}
use Rattle.connect_run.specs.SolvedCase.{verdict}
use Rattle.connect_words.specs.declared.command.Command.{Command}
use Rattle.connect_words.specs.declared.command.Command.TheVariants.{Check, Trial}
use Rattle.connect_run.specs.Answer.{IsAnswer, AnswersText, AnswersGraph, AnswersReading, AnswersCommand}
use Rattle.connect_run.specs.CheckCase.{AnswersCheck}
use Rattle.connect_run.specs.Run.{TellsAsk, WritesAnswer, WritesWhole}
use Rattle.connect_run.specs.declared.status.Status.{Status}
use Rattle.connect_run.specs.declared.status.Status.TheVariants.{Done, Impossible, ReadFault, WriteFault, NoMemory}

-- a status that an answer may have
abbrev pub is_told : Status → Bool
is_told ReadFault = false
is_told WriteFault = false
is_told NoMemory = false
is_told status = true

pub fault-told : (why : Why) → is_told (fault_status why) ≡ true
fault-told ManyNodes = refl
fault-told ManyLines = refl
fault-told ManyNumbers = refl
fault-told ManyCosts = refl
fault-told why = refl

verdict-told : (body : Body) → is_told (verdict body) ≡ true
verdict-told (Never side) = refl
verdict-told body = refl

-- a body is a verdict on its ask: Impossible exactly where the graph has no object for it
pub verdict-tells : (g : GraphValue) (ask : Ask) (body : Body) → HasObject g ask body → IsBest g ask body → TellsAsk g ask (verdict body)
verdict-tells g ask body object best = elim (object-or-never g ask body object best) [
  | inl (here, some) ↦ inl (done body here, some)
  | inr (here, none) ↦ inr (impossible body here, none)
]
  where
    done : (body : Body) → (IsNever body → ⊥) → verdict body ≡ Done
    done (Never side) here = absurd (here tt)
    done body here = refl

    impossible : (body : Body) → IsNever body → verdict body ≡ Impossible
    impossible (Never side) here = refl
    impossible body here = absurd here

-- so two verdicts on one ask are the same
pub one-verdict : (g : GraphValue) (ask : Ask) (a b : Status) → TellsAsk g ask a → TellsAsk g ask b → a ≡ b
one-verdict g ask a b (inl first) (inl second) = first.0 ∙ sym second.0
one-verdict g ask a b (inl first) (inr second) = absurd (first.1 second.1)
one-verdict g ask a b (inr first) (inl second) = absurd (second.1 first.1)
one-verdict g ask a b (inr first) (inr second) = first.0 ∙ sym second.0

check-told : (g : GraphValue) (bytes text : List ℕ) (status : Status) → AnswersCheck g bytes text status → is_told status ≡ true
check-told g bytes text status (inl accepted) = ap is_told accepted.status_is
check-told g bytes text status (inr rejected) = ap is_told rejected.status_is

graph-told : (command : Command) (words : List (List ℕ)) (g : GraphValue) (text : List ℕ) (status : Status) → AnswersGraph command words g text status → is_told status ≡ true
graph-told command words g text status (ask, asks, inl unsuited) = ap is_told unsuited.status_is
graph-told command words g text status (ask, asks, inr solved) = ap is_told solved.status_is ∙ verdict-told solved.cert.body

text-told : (command : Command) (words : List (List ℕ)) (input text : List ℕ) (status : Status) → AnswersText command words input text status → is_told status ≡ true
text-told Check words input text status answers = let (g, count, reads, checked) = answers in check-told g (drop count input) text status checked
text-told command words input text status answers = let (g, reads, answered) = answers in graph-told command words g text status answered

reading-told : (command : Command) (words : List (List ℕ)) (input text : List ℕ) (status : Status) → AnswersReading command words input text status → is_told status ≡ true
reading-told command words input text status (inl long) = ap is_told long.status_is
reading-told command words input text status (inr (short, inl fault)) = ap is_told fault.status_is ∙ fault-told fault.why
reading-told command words input text status (inr (short, inr answers)) = text-told command words input text status answers

command-told : (command : Command) (words : List (List ℕ)) (input text : List ℕ) (status : Status) → AnswersCommand command words input text status → is_told status ≡ true
command-told (Trial kind nodes number) words input text status trial = ap is_told trial.solved.status_is ∙ verdict-told trial.solved.cert.body
command-told command words input text status answers = reading-told command words input text status answers

pub answer-told : (words : List (List ℕ)) (input text : List ℕ) (status : Status) → IsAnswer words input text status → is_told status ≡ true
answer-told words input text status (inl bad) = ap is_told bad.status_is
answer-told words input text status (inr (command, commands, answers)) = command-told command words input text status answers

module _ (words : List (List ℕ)) (left old new : Option (List ℕ)) where
  -- an answer that is written whole is what its status says
  pub whole-writes : (status : Status) → is_told status ≡ true → WritesWhole words left old new status → WritesAnswer words left old new status
  whole-writes ReadFault told whole = absurd cc
  whole-writes WriteFault told whole = absurd cc
  whole-writes NoMemory told whole = absurd cc
  whole-writes status told whole = whole

  -- and the other way round, unless a fault came or memory ran out
  pub writes-whole : (status : Status) → WritesAnswer words left old new status → ((status ≡ ReadFault) ⊎ (status ≡ WriteFault) ⊎ (status ≡ NoMemory)) ⊎ WritesWhole words left old new status
  writes-whole ReadFault writes = inl (inl refl)
  writes-whole WriteFault writes = inl (inr (inl refl))
  writes-whole NoMemory writes = inl (inr (inr refl))
  writes-whole status writes = inr writes
