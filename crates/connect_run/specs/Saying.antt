-- What the parts of a run say.
use Rattle.std.specs.Prelude.{ℕ, ◌≡◌, ◌⊎◌, List}
use Rattle.cn_edge.specs.Causes.{CountsFault}
use Rattle.std.specs.declared.option.Option.{Option}
use Rattle.std.specs.Io.KnownBytes.{Keeps, Appends}
use Rattle.cn_edge.specs.Whole.{AppendsPart}
use Rattle.connect_run.specs.declared.status.Status.{Status}
use Rattle.connect_run.specs.declared.status.Status.TheVariants.{WriteFault, NoMemory}

-- The status is this fault only where one was counted, and wherever the count has changed.
pub record TellsFault (before now : ℕ) (fault result : Status) : Type 0 where
  pub counted : result ≡ fault → CountsFault before now
  pub told : (now ≡ before) ⊎ (result ≡ fault)

-- The text is written whole and the status is this one, or a part that isn't the whole is.
abbrev pub Says : Option (List ℕ) → Option (List ℕ) → List ℕ → Status → Status → Type 0
Says old new text status result = ((result ≡ status) × Appends old new text) ⊎ ((result ≡ WriteFault) × AppendsPart old new text)

-- An answer of these is said, or memory runs out.
abbrev pub Replies : (List ℕ → Status → Type 0) → Option (List ℕ) → Option (List ℕ) → Status → Type 0
Replies Answers old new result =
    ((text : List ℕ) × (status : Status) × Answers text status × Says old new text status result)
    ⊎ ((result ≡ NoMemory) × Keeps old new)
