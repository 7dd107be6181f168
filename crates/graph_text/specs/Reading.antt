-- What reading a graph answers.
use Rattle.std.specs.Prelude.{ℕ, ◌+◌, ◌<◌, ◌≤◌, ◌≡◌, ◌≢◌, ◌⊎◌, List, length, take, drop, All, Some, slice_get}
use Rattle.graph_core.specs.Graph.{GraphValue}
use Rattle.graph_text.specs.declared.refusal.Why.{Why}
use Rattle.graph_text.specs.declared.refusal.Why.TheVariants.{BadLine}
use Rattle.graph_text.specs.declared.refusal.GraphRefusal.{GraphRefusal}
use Rattle.graph_text.specs.declared.refusal.GraphRefusal.TheVariants.{Fault, NoMemory}
use Rattle.graph_text.specs.Lines.{lines}
use Rattle.graph_text.specs.Said.{Said, Skipped}
use Rattle.graph_text.specs.Text.{sayings, said_at, IsText, IsFirstFault}

-- the bytes are a text of the graph: their last line ends it
abbrev pub IsGraphText : List ℕ → GraphValue → Type 0
IsGraphText bytes g = (last : ℕ) × IsText (sayings bytes) last g × (last + 1 ≡ length (sayings bytes))

-- The first bytes, so many, cut no line: they are all, or the last of them is LF (10).
abbrev pub CutsNoLine : ℕ → List ℕ → Type 0
CutsNoLine count bytes = (count ≡ length bytes) ⊎ ((before : ℕ) × (count ≡ before + 1) × (slice_get bytes before ≡ Some 10))

-- The first bytes, so many, are whole lines and a text of the graph.
pub record ReadsText (bytes : List ℕ) (g : GraphValue) (count : ℕ) : Type 0 where
  pub within : count ≤ length bytes
  pub whole : CutsNoLine count bytes
  pub text : IsGraphText (take count bytes) g

-- the line, counted from 1, is the first with a fault, and this is its cause
abbrev pub IsFault : List ℕ → ℕ → Why → Type 0
IsFault bytes line why = (at : ℕ) × (line ≡ at + 1) × IsFirstFault (sayings bytes) at why

abbrev pub IsRefused : List ℕ → GraphRefusal → Type 0
IsRefused bytes (Fault line why) = IsFault bytes line why
IsRefused bytes NoMemory = Unit {0}

abbrev pub AllSkipped : List Said → Type 0
AllSkipped all = All (λ said. said ≡ Skipped) all

-- A text of the graph with only skipped lines behind it.
pub record IsTextAlone (bytes : List ℕ) (g : GraphValue) : Type 0 where
  pub count : ℕ
  pub reads : ReadsText bytes g count
  pub rest : AllSkipped (sayings (drop count bytes))

-- The first line that isn't skipped has this place.
pub record IsFirstSaid (all : List Said) (at : ℕ) : Type 0 where
  pub within : at < length all
  pub before : (k : ℕ) → k < at → said_at all k ≡ Skipped
  pub here : said_at all at ≢ Skipped

-- The line, counted from 1, is the first behind a text that isn't skipped.
pub record IsLaterLine (bytes : List ℕ) (line : ℕ) : Type 0 where
  pub graph : GraphValue
  pub count : ℕ
  pub reads : ReadsText bytes graph count
  pub at : ℕ
  pub first : IsFirstSaid (sayings (drop count bytes)) at
  pub place : line ≡ length (lines (take count bytes)) + at + 1

-- the fault of a text with what follows it
abbrev pub IsFaultAlone : List ℕ → ℕ → Why → Type 0
IsFaultAlone bytes line why = IsFault bytes line why ⊎ ((why ≡ BadLine) × IsLaterLine bytes line)

abbrev pub IsRefusedAlone : List ℕ → GraphRefusal → Type 0
IsRefusedAlone bytes (Fault line why) = IsFaultAlone bytes line why
IsRefusedAlone bytes NoMemory = Unit {0}
