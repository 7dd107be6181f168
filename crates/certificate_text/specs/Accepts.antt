-- Lines that a row of the table takes. No public clause cites it.
use Rattle.std.specs.Prelude.{◌≡◌, ◌⊎◌, List, [], ◌∷◌, length, Some}
use Rattle.graph_core.specs.Graph.{GraphValue}
use Rattle.problem_defs.specs.Shaped.{Belongs, IsInRange}
use Rattle.problem_defs.specs.declared.ask.Ask.{Ask}
use Rattle.problem_defs.specs.declared.cert.Body.{Body}
use Rattle.certificate_text.specs.declared.line.CertLine.{CertLine}
use Rattle.certificate_text.specs.Table.{rows}
use Rattle.certificate_text.specs.Taking.{slots, take_lines}
use Rattle.certificate_text.specs.Forms.{has_form}
use Rattle.certificate_text.specs.Lines.{body_lines}
use Rattle.problem_defs.specs.Shaped.{NumbersFit}

-- one of these rows has the property, and each has
abbrev pub SomeRow : {A : Type 0} → (List A → Type 0) → List (List A) → Type 0
SomeRow P [] = ⊥
SomeRow P (row ∷ rows) = P row ⊎ SomeRow P rows

abbrev pub EachRow : {A : Type 0} → (List A → Type 0) → List (List A) → Type 0
EachRow P [] = Unit {0}
EachRow P (row ∷ rows) = P row × EachRow P rows

-- a row of the command takes these lines, and is then at its end
abbrev pub Accepts : GraphValue → Ask → List CertLine → Type 0
Accepts g ask xs = SomeRow (λ row. take_lines (has_form g) (slots (length g.lines) row) xs ≡ Some []) (rows ask)

-- a body of the command, of which these are the lines
pub record HasBody (g : GraphValue) (ask : Ask) (xs : List CertLine) : Type 0 where
  pub body : Body
  pub belongs : Belongs ask body
  pub in_range : IsInRange (length g.names) (length g.lines) body
  pub numbers_fit : NumbersFit body
  pub lines_are : body_lines g ask body ≡ xs
