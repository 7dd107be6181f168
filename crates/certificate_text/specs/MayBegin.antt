-- Which lines begin a certificate, told line by line. No public clause cites it.
use Rattle.std.specs.Prelude.{◌≡◌, Bool, true, false, List, [], ◌∷◌, ◌++◌, length, Some}
use Rattle.graph_core.specs.Graph.{GraphValue}
use Rattle.problem_defs.specs.declared.ask.Ask.{Ask}
use Rattle.problem_defs.specs.declared.cert.Cert.{Cert}
use Rattle.certificate_text.specs.declared.line.CertLine.{CertLine}
use Rattle.certificate_text.specs.declared.line.CertLine.TheVariants as line
use Rattle.certificate_text.specs.Table.{rows}
use Rattle.certificate_text.specs.declared.row.Slot.{Slot}
use Rattle.certificate_text.specs.Taking.{slots, take_lines}
use Rattle.certificate_text.specs.Forms.{has_form}
use Rattle.certificate_text.specs.Lines.{lines}
use Rattle.problem_defs.specs.Shaped.{IsShaped}
use Rattle.certificate_text.specs.Accepts.{SomeRow}

-- a row of the command takes these lines, and may go on
abbrev pub GoesOn : GraphValue → Ask → List CertLine → Type 0
GoesOn g ask xs = SomeRow (λ row. (left : List Slot) × (take_lines (has_form g) (slots (length g.lines) row) xs ≡ Some left)) (rows ask)

-- the title, a command, and what a row of the command takes
abbrev pub MayBegin : GraphValue → List CertLine → Type 0
MayBegin g [] = Unit {0}
MayBegin g (x ∷ []) = x ≡ line.Title
MayBegin g (x ∷ y ∷ zs) = (x ≡ line.Title) × ((ask : Ask) × (y ≡ line.Command ask) × GoesOn g ask zs)

-- These lines begin those of a certificate.
pub record BeginsLines (g : GraphValue) (xs : List CertLine) : Type 0 where
  pub cert : Cert
  pub shaped : IsShaped g cert
  pub more : List CertLine
  pub is : lines g cert ≡ xs ++ more

abbrev pub is_end : CertLine → Bool
is_end line.End = true
is_end x = false

abbrev pub NoEnd : List CertLine → Type 0
NoEnd [] = Unit {0}
NoEnd (x ∷ xs) = (is_end x ≡ false) × NoEnd xs
