-- A graph text, and the first fault of what is none.
use Rattle.std.specs.Prelude.{ℕ, ◌<◌, ◌≡◌, ◌≢◌, ◌⊎◌, List, [], length, take, map, if◌then◌else◌, slice_index_or}
use Rattle.std.specs.declared.option.Option.{Option}
use Rattle.std.specs.declared.option.Option.TheVariants.{None, Some}
use Rattle.graph_core.specs.Graph.{GraphValue, IsGraph}
use Rattle.graph_core.specs.declared.graph.Line.{Line}
use Rattle.graph_text.specs.declared.refusal.Why.{Why}
use Rattle.graph_text.specs.declared.refusal.Why.TheVariants.{NoHeader, NoEnd}
use Rattle.graph_text.specs.Lines as text
use Rattle.graph_text.specs.Said.{Said, Skipped, End, line_says}
use Rattle.graph_text.specs.Before.{Ends, Content, content_of}
use Rattle.graph_text.specs.Cause.{cause, has_begun}

-- what each line of the bytes says
abbrev pub sayings : List ℕ → List Said
sayings bytes = map line_says (text.lines bytes)

abbrev pub said_at : List Said → ℕ → Said
said_at all at = slice_index_or all at Skipped

-- the cause at a line, by the lines before it
abbrev pub cause_at : List Said → ℕ → Option Why
cause_at all at = cause (content_of (take at all)) (said_at all at)

-- a line by the names of its ends
abbrev pub ends_in : List (List ℕ) → Line → Ends
ends_in names line = record { tail = slice_index_or names line.tail []; head = slice_index_or names line.head []; fixed = line.fixed; cost = line.cost }

-- A graph has the kind, the nodes and the lines that were declared, in their order.
pub record StandsFor (content : Content) (g : GraphValue) : Type 0 where
  pub graph : IsGraph g
  pub kind : content.kind ≡ Some g.kind
  pub names : content.names ≡ g.names
  pub numbers : content.numbers ≡ g.numbers
  pub ends : content.ends ≡ map (ends_in g.names) g.lines

-- a line that has no fault and doesn't end the text
pub record GoesOn (all : List Said) (at : ℕ) : Type 0 where
  pub sound : cause_at all at ≡ None
  pub unended : said_at all at ≢ End

-- This line is the first that ends a text, and no line up to it has a fault.
pub record EndsAt (all : List Said) (last : ℕ) : Type 0 where
  pub within : last < length all
  pub before : (at : ℕ) → at < last → GoesOn all at
  pub sound : cause_at all last ≡ None
  pub ended : said_at all last ≡ End

-- The first lines, up to and with this one, are a text of the graph.
pub record IsText (all : List Said) (last : ℕ) (g : GraphValue) : Type 0 where
  pub ends : EndsAt all last
  pub says : StandsFor (content_of (take last all)) g

-- the cause where the input ends without an end line
abbrev pub missing : Content → Why
missing content = if has_begun content then NoEnd else NoHeader

-- the fault of a line, or that of the end of the input
abbrev pub IsFaultAt : List Said → ℕ → Why → Type 0
IsFaultAt all at why = ((at < length all) × (cause_at all at ≡ Some why)) ⊎ ((at ≡ length all) × (why ≡ missing (content_of all)))

-- The first fault has this line's place and this cause.
pub record IsFirstFault (all : List Said) (at : ℕ) (why : Why) : Type 0 where
  pub before : (k : ℕ) → k < at → GoesOn all k
  pub here : IsFaultAt all at why
