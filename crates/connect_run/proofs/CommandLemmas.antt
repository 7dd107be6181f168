-- What a command asks, and that words are one command or bad.
use Rattle.std.proofs.Common.{◌≡◌, ℕ, List, Option, None, Some, Result, Ok, Err, true, false, refl, sym, ap, subst, ◌∙◌}
use Rattle.std.specs.Option.{IsSomeAnd}
use Rattle.graph_core.specs.Graph.{GraphValue}
use Rattle.problem_defs.specs.Ask.{misfit_of}
use Rattle.problem_defs.specs.declared.ask.Ask.{Ask}
use Rattle.problem_defs.specs.declared.ask.Misfit.{Misfit}
use Rattle.connect_words.specs.Asks.{asked, ask_or_misfit, unless}
use Rattle.connect_words.specs.Commands.{Solves, Writes}
use Rattle.connect_words.specs.Places.{IsFirstBadPlace}
use Rattle.connect_words.specs.declared.command.Command.{Command}
use Rattle.connect_words.specs.declared.command.Command.TheVariants.{Check, Trial}
use Rattle.connect_words.specs.declared.command.TrialKind.{TrialKind}
use Rattle.connect_words.proofs.MeaningLemmas.{one_command}
use Rattle.connect_run.specs.Reading.{AreCommand, reads_input, AreReading}

-- a command that is neither `check` nor `trial` asks something
solving-asks : (g : GraphValue) (words : List (List ℕ)) (command : Command) → Solves command → (ask : Ask) × (asked g words command ≡ Some ask)
solving-asks g words Check solves = absurd (solves.0 refl)
solving-asks g words (Trial kind nodes number) solves = absurd (solves.1 kind nodes number refl)
solving-asks g words command solves = (_, refl)

-- what a command's ask has to be for it to be solved
pub record IsSolvable (g : GraphValue) (words : List (List ℕ)) (command : Command) (ask : Ask) : Type 0 where
  pub asks : asked g words command ≡ Some ask
  pub suits : misfit_of g ask ≡ None

-- what is said of the command's ask
abbrev pub IsAsked : GraphValue → List (List ℕ) → Command → Result Ask Misfit → Type 0
IsAsked g words command result = IsSomeAnd (asked g words command) (λ ask. result ≡ ask_or_misfit g ask)

is-ask_or_misfit : (g : GraphValue) (words : List (List ℕ)) (command : Command) (result : Result Ask Misfit) (ask : Ask) → IsAsked g words command result → asked g words command ≡ Some ask → result ≡ ask_or_misfit g ask
is-ask_or_misfit g words command result ask is asks = subst (λ o. IsSomeAnd o (λ a. result ≡ ask_or_misfit g a)) asks is

unless-ok : (misfit : Option Misfit) (ask given : Ask) → Ok given ≡ unless misfit ask → (misfit ≡ None) × (ask ≡ given)
unless-ok None ask given same = (refl, cc)
unless-ok (Some misfit) ask given same = absurd cc

unless-err : (misfit : Option Misfit) (ask : Ask) (given : Misfit) → Err given ≡ unless misfit ask → misfit ≡ Some given
unless-err None ask given same = absurd cc
unless-err (Some misfit) ask given same = cc

pub ok-asks : (g : GraphValue) (words : List (List ℕ)) (command : Command) (given : Ask) → Solves command → IsAsked g words command (Ok given) → IsSolvable g words command given
ok-asks g words command given solves is =
    let (ask, asks) = solving-asks g words command solves in
    let (suits, same) = unless-ok (misfit_of g ask) ask given (is-ask_or_misfit g words command (Ok given) ask is asks) in
    subst (IsSolvable g words command) same (record { asks = asks; suits = suits })

pub err-asks : (g : GraphValue) (words : List (List ℕ)) (command : Command) (given : Misfit) → Solves command → IsAsked g words command (Err given) → (ask : Ask) × (asked g words command ≡ Some ask) × (misfit_of g ask ≡ Some given)
err-asks g words command given solves is =
    let (ask, asks) = solving-asks g words command solves in
    (ask, asks, unless-err (misfit_of g ask) ask given (is-ask_or_misfit g words command (Err given) ask is asks))

-- words that are a command aren't bad
pub command-not-bad : (words : List (List ℕ)) (place : ℕ) → IsFirstBadPlace words place → AreCommand words → ⊥
command-not-bad words place bad (command, commands) = bad.bad (command, words, commands, λ at before. refl)

-- a command reads an input where it is no trial, and then asks something where it isn't `check` either
pub reads-unless : (command : Command) → ((kind : TrialKind) (nodes number : ℕ) → command ≡ Trial kind nodes number → ⊥) → reads_input command ≡ true
reads-unless (Trial kind nodes number) other = absurd (other kind nodes number refl)
reads-unless command other = refl

pub solves-unless : (command : Command) → reads_input command ≡ true → (command ≡ Check → ⊥) → Solves command
solves-unless command reads other = (
  other,
  λ kind nodes number same.
      let clash : false ≡ true = sym (ap reads_input same) ∙ reads in
      cc,
)

-- the words of a trial are no command that reads
pub trial-not-reading : (words : List (List ℕ)) (kind : TrialKind) (nodes number : ℕ) → Writes (Trial kind nodes number) words → AreReading words → ⊥
trial-not-reading words kind nodes number commands (other, others, reads) =
    let same : Trial kind nodes number ≡ other = one_command words (Trial kind nodes number) other commands others in
    let clash : false ≡ true = ap reads_input same ∙ reads in
    cc
