-- What the reader goes by: the first word of a command, and what stands behind it. No public clause cites it.
use Rattle.std.specs.Prelude.{◌≡◌, ℕ, ◌^◌, ◌<◌, List, [], ◌∷◌, Option, Some, None, ⊤, codes, slice_get}
use Rattle.std.specs.Fmt.{decimal}
use Rattle.problem_defs.specs.Ask.{IsK}
use Rattle.problem_defs.specs.Verbs.{verb_word}
use Rattle.problem_defs.specs.declared.verb.Verb.{Verb}
use Rattle.problem_defs.specs.declared.verb.Verb.TheVariants.{Flow, CutTree, Augment, AugmentArcs, Arborescences, Trees, Forests, Orient, Dijoin}
use Rattle.connect_words.specs.declared.command.Command.{Command}
use Rattle.connect_words.specs.declared.command.Command.TheVariants as command
use Rattle.connect_words.specs.declared.command.TrialKind.{TrialKind}
use Rattle.connect_words.specs.declared.blank.FirstWord.{FirstWord}
use Rattle.connect_words.specs.declared.blank.FirstWord.TheVariants.{Asks, Check, Trial}
use Rattle.connect_words.specs.declared.blank.Blank.{Blank}
use Rattle.connect_words.specs.declared.blank.Blank.TheVariants.{Name, Kind, K, Nodes, Number}
use Rattle.connect_words.specs.Commands.{kind_word, IsNodes, IsNumber}

-- the first word
abbrev pub first_word : FirstWord → List ℕ
first_word (Asks verb) = verb_word verb
first_word Check = codes "check"
first_word Trial = codes "trial"

-- what stands behind it
abbrev pub blanks_of : Verb → List Blank
blanks_of Flow = Name ∷ Name ∷ []
blanks_of CutTree = []
blanks_of Augment = K ∷ []
blanks_of AugmentArcs = K ∷ []
blanks_of Arborescences = Name ∷ []
blanks_of Trees = []
blanks_of Forests = []
blanks_of Orient = K ∷ []
blanks_of Dijoin = []

abbrev pub blanks : FirstWord → List Blank
blanks (Asks verb) = blanks_of verb
blanks Check = []
blanks Trial = Kind ∷ Nodes ∷ Number ∷ []

-- the word is a decimal of a number that is allowed
abbrev pub IsDecimal : (ℕ → Type 0) → List ℕ → Type 0
IsDecimal Allowed given = (number : ℕ) × Allowed number × (given ≡ decimal number)

abbrev pub MayStand : Blank → List ℕ → Type 0
MayStand Name given = ⊤
MayStand Kind given = (kind : TrialKind) × (given ≡ kind_word kind)
MayStand K given = IsDecimal IsK given
MayStand Nodes given = IsDecimal IsNodes given
MayStand Number given = IsDecimal IsNumber given

-- a word stands there and may
abbrev pub Takes : Option Blank → Option (List ℕ) → Type 0
Takes (Some blank) (Some given) = MayStand blank given
Takes (Some blank) None = ⊥
Takes None given = ⊥

-- the words may stand in the blanks, one each
abbrev pub AllMayStand : List Blank → List (List ℕ) → Type 0
AllMayStand [] [] = ⊤
AllMayStand [] (given ∷ words) = ⊥
AllMayStand (blank ∷ blanks) [] = ⊥
AllMayStand (blank ∷ blanks) (given ∷ words) = MayStand blank given × AllMayStand blanks words

abbrev pub first_of : Command → FirstWord
first_of command.Flow = Asks Flow
first_of command.CutTree = Asks CutTree
first_of (command.Augment k) = Asks Augment
first_of (command.AugmentArcs k) = Asks AugmentArcs
first_of command.Arborescences = Asks Arborescences
first_of command.Trees = Asks Trees
first_of command.Forests = Asks Forests
first_of (command.Orient k) = Asks Orient
first_of command.Dijoin = Asks Dijoin
first_of command.Check = Check
first_of (command.Trial kind nodes number) = Trial

-- this number, where the word is a decimal
abbrev pub ReadsNumber : Option (List ℕ) → ℕ → Type 0
ReadsNumber given read = (number : ℕ) → number < 2 ^ 32 → given ≡ Some (decimal number) → read ≡ number

abbrev pub ReadsKind : Option (List ℕ) → TrialKind → Type 0
ReadsKind given read = (kind : TrialKind) → given ≡ Some (kind_word kind) → read ≡ kind

-- the kind and the numbers of the command are those of the words, where the words may stand in the blanks
abbrev pub Reads : List (List ℕ) → Command → Type 0
Reads words (command.Augment k) = ReadsNumber (slice_get words 1) k
Reads words (command.AugmentArcs k) = ReadsNumber (slice_get words 1) k
Reads words (command.Orient k) = ReadsNumber (slice_get words 1) k
Reads words (command.Trial kind nodes number) =
    ReadsKind (slice_get words 1) kind × ReadsNumber (slice_get words 2) nodes × ReadsNumber (slice_get words 3) number
Reads words _ = ⊤
