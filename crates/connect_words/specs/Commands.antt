-- The table of commands: which words write which command.
use Rattle.std.specs.Prelude.{◌≡◌, ◌≢◌, ℕ, ◌-◌, ◌^◌, ◌≤◌, List, [], ◌∷◌, Option, Some, None, ⊤, codes}
use Rattle.std.specs.Fmt.{decimal}
use Rattle.graph_core.specs.Limits.{most_nodes}
use Rattle.problem_defs.specs.Ask.{IsK}
use Rattle.problem_defs.specs.Verbs.{verb_word}
use Rattle.problem_defs.specs.declared.verb.Verb.TheVariants as verb
use Rattle.connect_words.specs.declared.command.Command.{Command}
use Rattle.connect_words.specs.declared.command.Command.TheVariants.{Flow, CutTree, Augment, AugmentArcs, Arborescences, Trees, Forests, Orient, Dijoin, Check, Trial}
use Rattle.connect_words.specs.declared.command.TrialKind.{TrialKind}
use Rattle.connect_words.specs.declared.command.TrialKind.TheVariants as trial

-- the word of a kind of trial
abbrev pub kind_word : TrialKind → List ℕ
kind_word trial.Flow = verb_word verb.Flow
kind_word trial.Augment = verb_word verb.Augment
kind_word trial.AugmentArcs = verb_word verb.AugmentArcs
kind_word trial.Arborescences = verb_word verb.Arborescences
kind_word trial.Trees = verb_word verb.Trees
kind_word trial.Forests = verb_word verb.Forests
kind_word trial.Orient = verb_word verb.Orient
kind_word trial.Dijoin = verb_word verb.Dijoin

-- What stands at a place of a command: this word, or the name of a node, which may be any word.
abbrev pub Place : Type 0
Place = Option (List ℕ)

abbrev pub word : List ℕ → Place
word text = Some text

abbrev pub name : Place
name = None

-- the places of a command
abbrev pub places : Command → List Place
places Flow = word (verb_word verb.Flow) ∷ name ∷ name ∷ []
places CutTree = word (verb_word verb.CutTree) ∷ []
places (Augment k) = word (verb_word verb.Augment) ∷ word (decimal k) ∷ []
places (AugmentArcs k) = word (verb_word verb.AugmentArcs) ∷ word (decimal k) ∷ []
places Arborescences = word (verb_word verb.Arborescences) ∷ name ∷ []
places Trees = word (verb_word verb.Trees) ∷ []
places Forests = word (verb_word verb.Forests) ∷ []
places (Orient k) = word (verb_word verb.Orient) ∷ word (decimal k) ∷ []
places Dijoin = word (verb_word verb.Dijoin) ∷ []
places Check = word (codes "check") ∷ []
places (Trial kind nodes number) = word (codes "trial") ∷ word (kind_word kind) ∷ word (decimal nodes) ∷ word (decimal number) ∷ []

-- the greatest number of a trial
abbrev pub greatest_trial : ℕ
greatest_trial = 2 ^ 32 - 1

-- how many nodes and which number a trial may have
abbrev pub IsNodes : ℕ → Type 0
IsNodes nodes = (2 ≤ nodes) × (nodes ≤ most_nodes)

abbrev pub IsNumber : ℕ → Type 0
IsNumber number = (0 ≤ number) × (number ≤ greatest_trial)

-- the numbers of a command are within their limits
abbrev pub IsWithinLimits : Command → Type 0
IsWithinLimits (Augment k) = IsK k
IsWithinLimits (AugmentArcs k) = IsK k
IsWithinLimits (Orient k) = IsK k
IsWithinLimits (Trial kind nodes number) = IsNodes nodes × IsNumber number
IsWithinLimits _ = ⊤

abbrev pub Stands : Place → List ℕ → Type 0
Stands (Some text) given = given ≡ text
Stands None given = ⊤

-- the words stand at the places, one each
abbrev pub Fill : List Place → List (List ℕ) → Type 0
Fill [] [] = ⊤
Fill [] (given ∷ words) = ⊥
Fill (place ∷ places) [] = ⊥
Fill (place ∷ places) (given ∷ words) = Stands place given × Fill places words

-- The words write the command.
pub record Writes (command : Command) (words : List (List ℕ)) : Type 0 where
  pub limits : IsWithinLimits command
  pub fill : Fill (places command) words

-- the command asks something of the graph that is read: it is neither `check` nor `trial`
abbrev pub Solves : Command → Type 0
Solves command = (command ≢ Check) × ((kind : TrialKind) (nodes number : ℕ) → command ≢ Trial kind nodes number)
