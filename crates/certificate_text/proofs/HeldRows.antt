-- What the lines of a row hold, piece by piece: what a row takes holds it, and a row takes what holds it.
use Rattle.std.proofs.Common.{◌≡◌, ℕ, Bool, true, false, true≢false, List, [], ◌∷◌, ◌++◌, map, length, refl, sym, ap, subst, ◌∙◌, inl, inr, Some, All}
use Rattle.std.specs.Prelude.{◌&&◌}
use Rattle.std.proofs.lemmas.Bool.{and_parts}
use Rattle.graph_core.specs.Graph.{GraphValue}
use Rattle.problem_defs.specs.declared.ask.Ask.{Ask}
use Rattle.problem_defs.specs.declared.ask.Ask.TheVariants as ask
use Rattle.certificate_text.specs.declared.line.CertLine.{CertLine}
use Rattle.certificate_text.specs.declared.line.CertLine.TheVariants as line
use Rattle.certificate_text.specs.declared.line.DualKind.{DualKind}
use Rattle.certificate_text.specs.declared.row.Form.{Form}
use Rattle.certificate_text.specs.declared.row.Form.TheVariants as form
use Rattle.certificate_text.specs.declared.row.Piece.{Piece}
use Rattle.certificate_text.specs.declared.row.Piece.TheVariants.{One, Any, EachLine}
use Rattle.certificate_text.specs.declared.row.Slot.{Slot}
use Rattle.certificate_text.specs.Table.{rows}
use Rattle.certificate_text.specs.Taking.{musts, slots_by, slots, take_lines}
use Rattle.certificate_text.specs.Valid.{IsValid, ValidAll}
use Rattle.certificate_text.specs.Forms.{has_form}
use Rattle.certificate_text.specs.Lines.{turned_lines}
use Rattle.certificate_text.specs.Accepts.{SomeRow}
use Rattle.certificate_text.proofs.TakingLaws.{BeginsUnlike, must-taken, may-taken, may-skip_all, musts-taken, musts-parts}
use Rattle.certificate_text.proofs.FormLaws.{MadeBy, one, several, nothing-left, fit-map, kind-is, kind-same, valid-split}
use Rattle.certificate_text.proofs.RowTests.{is_inner, is_closed, is_row, row-parts}
use Rattle.certificate_text.proofs.TurnedLaws.{turned-heads, turned-fit, length-turned}

-- ---- what a line, a piece and a row hold

-- what a line of the form holds
abbrev pub Holds : Form → Type 0
Holds form.Value = ℕ
Holds form.Path = List ℕ
Holds form.Part = List ℕ
Holds form.Join = List ℕ
Holds form.Tree = ℕ × ℕ × ℕ
Holds form.Edge = ℕ × ℕ
Holds form.Arc = ℕ × ℕ
Holds form.Set = List Bool
Holds other = Unit {0}

-- the line that holds it; a turned edge is told by the graph besides
abbrev pub made : (f : Form) → Holds f → CertLine
made form.Value n = line.Value n
made form.Impossible held = line.Impossible
made form.Path js = line.Path js
made form.Part js = line.Part js
made form.Join js = line.Join js
made form.Tree p = line.Tree p.0 p.1 p.2
made form.Edge p = line.Edge p.0 p.1
made form.Arc p = line.Arc p.0 p.1
made form.Turned held = line.End
made (form.Dual k) held = line.Dual k
made form.Set X = line.Set X
made form.End held = line.End

abbrev pub HeldPiece : GraphValue → Piece → Type 0
HeldPiece g (One f) = Holds f
HeldPiece g (Any f) = List (Holds f)
HeldPiece g (EachLine f) = (heads : List Bool) × (length heads ≡ length g.lines)

abbrev pub piece_lines : (g : GraphValue) (piece : Piece) → HeldPiece g piece → List CertLine
piece_lines g (One f) held = made f held ∷ []
piece_lines g (Any f) held = map (made f) held
piece_lines g (EachLine f) held = turned_lines g.lines held.0

abbrev pub Held : GraphValue → List Piece → Type 0
Held g [] = Unit {0}
Held g (piece ∷ row) = HeldPiece g piece × Held g row

abbrev pub held_lines : (g : GraphValue) (row : List Piece) → Held g row → List CertLine
held_lines g [] held = []
held_lines g (piece ∷ row) held = piece_lines g piece held.0 ++ held_lines g row held.1

-- its lines are valid
abbrev pub IsValidPiece : (g : GraphValue) (piece : Piece) → HeldPiece g piece → Type 0
IsValidPiece g (One f) held = IsValid g (made f held)
IsValidPiece g (Any f) held = All (λ a. IsValid g (made f a)) held
IsValidPiece g (EachLine f) held = Unit {0}

abbrev pub IsValidHeld : (g : GraphValue) (row : List Piece) → Held g row → Type 0
IsValidHeld g [] held = Unit {0}
IsValidHeld g (piece ∷ row) held = IsValidPiece g piece held.0 × IsValidHeld g row held.1

-- ---- what a row takes

abbrev pub is_plain : Form → Bool
is_plain form.Turned = false
is_plain other = true

-- turned edges come one for each line, and no other form does
abbrev pub is_read : Piece → Bool
is_read (One f) = is_plain f
is_read (Any f) = is_plain f
is_read (EachLine form.Turned) = true
is_read (EachLine f) = false

abbrev pub are_read : List Piece → Bool
are_read [] = true
are_read (piece ∷ row) = is_read piece && are_read row

abbrev pub rows_read : List (List Piece) → Bool
rows_read [] = true
rows_read (row ∷ rows) = are_read row && rows_read rows

-- by each ask
pub rows-read : (x : Ask) → rows_read (rows x) ≡ true
rows-read (ask.Flow s t) = refl
rows-read x = refl

-- a line of a form holds what such a line holds
form-made : (g : GraphValue) (f : Form) → is_plain f ≡ true → MadeBy (Holds f) g f (made f)
form-made g form.Value plain (line.Value n) place e = (n, refl)
form-made g form.Value plain x place e = cc
form-made g form.Impossible plain line.Impossible place e = (tt, refl)
form-made g form.Impossible plain x place e = cc
form-made g form.Path plain (line.Path js) place e = (js, refl)
form-made g form.Path plain x place e = cc
form-made g form.Part plain (line.Part js) place e = (js, refl)
form-made g form.Part plain x place e = cc
form-made g form.Join plain (line.Join js) place e = (js, refl)
form-made g form.Join plain x place e = cc
form-made g form.Tree plain (line.Tree u v n) place e = ((u, v, n), refl)
form-made g form.Tree plain x place e = cc
form-made g form.Edge plain (line.Edge u v) place e = ((u, v), refl)
form-made g form.Edge plain x place e = cc
form-made g form.Arc plain (line.Arc u v) place e = ((u, v), refl)
form-made g form.Arc plain x place e = cc
form-made g form.Turned plain x place e = absurd (true≢false (sym plain))
form-made g (form.Dual k) plain (line.Dual other) place e = (tt, ap line.Dual (kind-same k other e))
form-made g (form.Dual k) plain x place e = cc
form-made g form.Set plain (line.Set X) place e = (X, refl)
form-made g form.Set plain x place e = cc
form-made g form.End plain line.End place e = (tt, refl)
form-made g form.End plain x place e = cc

-- the lines of the first piece, and the others
record Front (g : GraphValue) (piece : Piece) (left : List Slot) (ys : List CertLine) : Type 0 where
  pub held : HeldPiece g piece
  pub rest : List CertLine
  pub is : ys ≡ piece_lines g piece held ++ rest
  pub valid : IsValidPiece g piece held
  pub valid_rest : ValidAll g rest
  pub goes_on : take_lines (has_form g) left rest ≡ Some []

front : (g : GraphValue) (piece : Piece) (left : List Slot) (ys : List CertLine) → is_read piece ≡ true → take_lines (has_form g) (slots_by (length g.lines) piece ++ left) ys ≡ Some [] → ValidAll g ys → Front g piece left ys
front g (One f) left ys read e valid =
    let o = one (Holds f) g f (made f) 0 left ys (form-made g f read) e valid in
    record { held = o.value; rest = o.rest; is = o.is; valid = o.valid; valid_rest = o.valid_rest; goes_on = o.goes_on }
front g (Any f) left ys read e valid =
    let s = several (Holds f) g f (made f) left ys (form-made g f read) e valid in
    record { held = s.values; rest = s.rest; is = s.is; valid = s.valid; valid_rest = s.valid_rest; goes_on = s.goes_on }
front g (EachLine form.Turned) left ys read e valid =
    let a = musts-parts (has_form g) form.Turned 0 (length g.lines) left ys e in
    let h = turned-heads g 0 g.lines a.front refl a.long a.fit in
    record {
      held = (h.heads, h.long);
      rest = a.rest;
      is = a.is ∙ ap (λ l. l ++ a.rest) h.is;
      valid = tt;
      valid_rest = (valid-split g a.front a.rest (subst (ValidAll g) a.is valid)).1;
      goes_on = a.goes_on;
    }
front g (EachLine f) left ys read e valid = absurd (true≢false (sym read))

-- what the lines that a row takes hold
pub record Taken (g : GraphValue) (row : List Piece) (ys : List CertLine) : Type 0 where
  pub held : Held g row
  pub is : ys ≡ held_lines g row held
  pub valid : IsValidHeld g row held

taken : (g : GraphValue) (row : List Piece) (ys : List CertLine) → are_read row ≡ true → take_lines (has_form g) (slots (length g.lines) row) ys ≡ Some [] → ValidAll g ys → Taken g row ys
taken g [] ys read e valid = record { held = tt; is = nothing-left g ys e; valid = tt }
taken g (piece ∷ row) ys read e valid =
    let (here, behind) = and_parts (is_read piece) (are_read row) read in
    let f = front g piece (slots (length g.lines) row) ys here e valid in
    let t = taken g row f.rest behind f.goes_on f.valid_rest in
    record { held = (f.held, t.held); is = f.is ∙ ap (λ l. piece_lines g piece f.held ++ l) t.is; valid = (f.valid, t.valid) }

pub taken-by : (g : GraphValue) (rs : List (List Piece)) (ys : List CertLine) → rows_read rs ≡ true → SomeRow (λ row. take_lines (has_form g) (slots (length g.lines) row) ys ≡ Some []) rs → ValidAll g ys → SomeRow (λ row. Taken g row ys) rs
taken-by g [] ys read some valid = some
taken-by g (row ∷ rs) ys read (inl e) valid = inl (taken g row ys (and_parts (are_read row) (rows_read rs) read).0 e valid)
taken-by g (row ∷ rs) ys read (inr some) valid = inr (taken-by g rs ys (and_parts (are_read row) (rows_read rs) read).1 some valid)

-- ---- what is taken by a row

made-fits : (g : GraphValue) (f : Form) (held : Holds f) → is_plain f ≡ true → has_form g f 0 (made f held) ≡ true
made-fits g form.Turned held plain = absurd (true≢false (sym plain))
made-fits g (form.Dual k) held plain = kind-is k
made-fits g f held plain = refl

-- a line that closes any number of lines hasn't their form
pub unlike-dual : (g : GraphValue) (f : Form) (k : DualKind) → is_inner (Any f) ≡ true → has_form g f 0 (line.Dual k) ≡ false
unlike-dual g (form.Dual j) k inner = absurd (true≢false (sym inner))
unlike-dual g f k inner = refl

pub unlike-end : (g : GraphValue) (f : Form) → is_inner (Any f) ≡ true → has_form g f 0 line.End ≡ false
unlike-end g form.End inner = absurd (true≢false (sym inner))
unlike-end g f inner = refl

abbrev IsClosedBy : GraphValue → Piece → List CertLine → Type 0
IsClosedBy g (Any f) ys = BeginsUnlike (has_form g) f ys
IsClosedBy g piece ys = Unit {0}

closed-by : (g : GraphValue) (piece other : Piece) (row : List Piece) (held : Held g (other ∷ row)) → is_inner piece ≡ true → is_closed piece other ≡ true → IsClosedBy g piece (held_lines g (other ∷ row) held)
closed-by g (Any f) (One (form.Dual k)) row held inner closed = unlike-dual g f k inner
closed-by g (Any f) (One form.End) row held inner closed = unlike-end g f inner
closed-by g (Any f) other row held inner closed = absurd (true≢false (sym closed))
closed-by g piece other row held inner closed = tt

piece-taken : (g : GraphValue) (piece : Piece) (held : HeldPiece g piece) (left : List Slot) (ys : List CertLine) → is_inner piece ≡ true → IsClosedBy g piece ys → take_lines (has_form g) (slots_by (length g.lines) piece ++ left) (piece_lines g piece held ++ ys) ≡ take_lines (has_form g) left ys
piece-taken g (One form.Turned) held left ys inner closed = absurd (true≢false (sym inner))
piece-taken g (One f) held left ys inner closed = must-taken (has_form g) f 0 left (made f held) ys (made-fits g f held refl)
piece-taken g (Any form.Turned) held left ys inner closed = absurd (true≢false (sym inner))
piece-taken g (Any f) held left ys inner closed = may-taken (has_form g) f left (map (made f) held) ys (fit-map (Holds f) g f (made f) (λ a. made-fits g f a refl) held) ∙ may-skip_all (has_form g) f left ys closed
piece-taken g (EachLine form.Turned) held left ys inner closed =
    let xs = turned_lines g.lines held.0 in
    let P : ℕ → Type 0 = λ m. take_lines (has_form g) (musts form.Turned 0 m ++ left) (xs ++ ys) ≡ take_lines (has_form g) left ys in
    subst P (length-turned g.lines held.0 held.1) (musts-taken (has_form g) form.Turned 0 left xs ys (turned-fit g 0 g.lines held.0 refl))
piece-taken g (EachLine f) held left ys inner closed = absurd (true≢false (sym inner))

pub held-taken : (g : GraphValue) (row : List Piece) (held : Held g row) → is_row row ≡ true → take_lines (has_form g) (slots (length g.lines) row) (held_lines g row held) ≡ Some []
held-taken g [] held is = absurd (true≢false (sym is))
held-taken g (One form.End ∷ []) held is = refl
held-taken g (piece ∷ []) held is = absurd (true≢false (sym is))
held-taken g (piece ∷ other ∷ row) held is =
    let (inner, closed, rest) = row-parts piece other row is in
    piece-taken g piece held.0 (slots (length g.lines) (other ∷ row)) (held_lines g (other ∷ row) held.1) inner (closed-by g piece other row held.1 inner closed)
    ∙ held-taken g (other ∷ row) held.1 rest
