-- What a reader keeps from line to line. No public clause cites it.
use Rattle.std.specs.Prelude.{◌≡◌, ℕ, ◌+◌, List, [], ◌∷◌, map, length, Option, Some, None}
use Rattle.std.specs.Option.{option_and_then}
use Rattle.graph_core.specs.Graph.{GraphValue}
use Rattle.problem_defs.specs.declared.ask.Ask.{Ask}
use Rattle.certificate_text.specs.declared.line.CertLine.{CertLine}
use Rattle.certificate_text.specs.declared.line.CertLine.TheVariants as line
use Rattle.certificate_text.specs.declared.row.Slot.{Slot}
use Rattle.certificate_text.specs.declared.gather.Gathered.{Gathered}
use Rattle.certificate_text.specs.Table.{rows}
use Rattle.certificate_text.specs.Taking.{slots, take_lines}
use Rattle.certificate_text.specs.Forms.{has_form}
use Rattle.certificate_text.specs.Gather.{nothing, gather}
use Rattle.certificate_text.specs.Reading.{HasRead}

abbrev pub option_list : Option (List Slot) → List (List Slot)
option_list None = []
option_list (Some row) = row ∷ []

-- the rows of the command: one, or two
abbrev pub AreSlotsOf : GraphValue → Ask → List Slot → Option (List Slot) → Type 0
AreSlotsOf g ask first second = map (slots (length g.lines)) (rows ask) ≡ first ∷ option_list second

pub record Reading (g : GraphValue) (bytes : List ℕ) (ask : Ask) (first : List Slot) (second : Option (List Slot)) (rest : List ℕ) (count : ℕ) (one two : Option (List Slot)) (content : Gathered) : Type 0 where
  pub lines : List CertLine
  pub read : HasRead g bytes (line.Title ∷ line.Command ask ∷ lines) rest
  pub counted : count ≡ length lines + 2
  pub one_is : one ≡ take_lines (has_form g) first lines
  pub two_is : two ≡ option_and_then (λ row. take_lines (has_form g) row lines) second
  pub content_is : content ≡ gather nothing lines
