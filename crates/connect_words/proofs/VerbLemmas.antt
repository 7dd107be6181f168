-- The first words of commands and the words of kinds differ from each other.
use Rattle.std.proofs.Common.{◌≡◌, ℕ, List, refl, sym, ◌∙◌, ap, cond}
use Rattle.std.specs.Prelude.{bytes_eq}
use Rattle.connect_words.specs.declared.command.TrialKind.{TrialKind}
use Rattle.connect_words.specs.declared.command.TrialKind.TheVariants as trial
use Rattle.connect_words.specs.declared.blank.FirstWord.{FirstWord}
use Rattle.connect_words.specs.declared.blank.FirstWord.TheVariants.{Asks, Check, Trial}
use Rattle.problem_defs.proofs.VerbLaws.{verb_named}
use Rattle.problem_defs.specs.declared.verb.Verb.TheVariants.{Flow}
use Rattle.connect_words.specs.Commands.{kind_word}
use Rattle.connect_words.specs.Blanks.{first_word}

-- the first word that is written so
abbrev first_named : List ℕ → FirstWord
first_named w = cond (bytes_eq w (first_word Check)) Check (cond (bytes_eq w (first_word Trial)) Trial (Asks (verb_named w)))

first_named-first_word : (first : FirstWord) → first_named (first_word first) ≡ first
first_named-first_word (Asks Flow) = refl
first_named-first_word first = refl

pub first_word_injective : (u v : FirstWord) → first_word u ≡ first_word v → u ≡ v
first_word_injective u v e = sym (first_named-first_word u) ∙ ap first_named e ∙ first_named-first_word v

-- the kind of a word
abbrev pub kind_named : List ℕ → TrialKind
kind_named w =
    cond (bytes_eq w (kind_word trial.Flow)) trial.Flow
    (cond (bytes_eq w (kind_word trial.Augment)) trial.Augment
    (cond (bytes_eq w (kind_word trial.AugmentArcs)) trial.AugmentArcs
    (cond (bytes_eq w (kind_word trial.Arborescences)) trial.Arborescences
    (cond (bytes_eq w (kind_word trial.Trees)) trial.Trees
    (cond (bytes_eq w (kind_word trial.Forests)) trial.Forests
    (cond (bytes_eq w (kind_word trial.Orient)) trial.Orient trial.Dijoin))))))

pub kind_named-kind_word : (kind : TrialKind) → kind_named (kind_word kind) ≡ kind
kind_named-kind_word trial.Flow = refl
kind_named-kind_word kind = refl
