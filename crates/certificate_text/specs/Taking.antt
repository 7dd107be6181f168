-- Which lines may come next, by what is left of a row. No public clause cites it.
use Rattle.std.specs.Prelude.{ℕ, zero, suc, Bool, if◌then◌else◌, List, [], ◌∷◌, Option, None, Some}
use Rattle.std.specs.List.{flat_map}
use Rattle.std.specs.Option.{option_and_then}
use Rattle.certificate_text.specs.declared.line.CertLine.{CertLine}
use Rattle.certificate_text.specs.declared.row.Form.{Form}
use Rattle.certificate_text.specs.declared.row.Piece.{Piece}
use Rattle.certificate_text.specs.declared.row.Piece.TheVariants.{One, Any, EachLine}
use Rattle.certificate_text.specs.declared.row.Slot.{Slot}
use Rattle.certificate_text.specs.declared.row.Slot.TheVariants.{Must, May}

-- so many lines of one form, the first at this place
abbrev pub musts : Form → ℕ → ℕ → List Slot
musts f place zero = []
musts f place (suc more) = Must f place ∷ musts f (suc place) more

-- the slots of a piece, where the graph has m lines
abbrev pub slots_by : ℕ → Piece → List Slot
slots_by m (One f) = Must f 0 ∷ []
slots_by m (Any f) = May f ∷ []
slots_by m (EachLine f) = musts f 0 m

abbrev pub slots : ℕ → List Piece → List Slot
slots m pieces = flat_map (slots_by m) pieces

-- whether a line has the form, at this place
abbrev pub HasForm : Type 0
HasForm = Form → ℕ → CertLine → Bool

-- what is left after one line, where it may come
abbrev pub take_line : HasForm → List Slot → CertLine → Option (List Slot)
take_line has_form [] x = None
take_line has_form (Must f place ∷ left) x = if has_form f place x then Some left else None
take_line has_form (May f ∷ left) x = if has_form f 0 x then Some (May f ∷ left) else take_line has_form left x

abbrev pub take_lines : HasForm → List Slot → List CertLine → Option (List Slot)
take_lines has_form left [] = Some left
take_lines has_form left (x ∷ xs) = option_and_then (λ after. take_lines has_form after xs) (take_line has_form left x)
