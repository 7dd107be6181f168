-- Lines are allowed just where they begin a certificate.
use Rattle.std.proofs.Common.{◌≡◌, ◌≢◌, true≢false, ℕ, zero, suc, ◌+◌, ◌<◌, ◌≤◌, ◌^◌, ◌==◌, ◌&&◌, Bool, true, false, cond, List, [], ◌∷◌, ◌++◌, length, get_or, refl, sym, ap, subst, ◌∙◌, inl, inr, Option, None, Some, All, eq-eqb, arith}
use Rattle.std.specs.Prelude.{replicate}
use Rattle.std.proofs.lemmas.Bool.{and_parts}
use Rattle.std.proofs.lemmas.List.Elements.{All-nil}
use Rattle.std.specs.Option.{option_and_then}
use Rattle.graph_core.specs.Graph.{GraphValue, IsGraph, Fits, no_line}
use Rattle.graph_core.specs.declared.graph.Kind.{Kind}
use Rattle.graph_core.specs.declared.graph.Kind.TheVariants.{Undirected, Directed}
use Rattle.problem_defs.specs.Ask.{misfit_of, KIsInRange}
use Rattle.problem_defs.specs.declared.ask.Ask.{Ask}
use Rattle.problem_defs.specs.declared.ask.Ask.TheVariants as ask
use Rattle.problem_defs.specs.declared.cert.Cert.{Cert}
use Rattle.certificate_text.specs.declared.line.CertLine.{CertLine}
use Rattle.certificate_text.specs.declared.line.CertLine.TheVariants as line
use Rattle.certificate_text.specs.declared.row.Form.{Form}
use Rattle.certificate_text.specs.declared.row.Form.TheVariants as form
use Rattle.certificate_text.specs.declared.row.Piece.{Piece}
use Rattle.certificate_text.specs.declared.row.Piece.TheVariants.{One, Any, EachLine}
use Rattle.certificate_text.specs.Table.{rows}
use Rattle.certificate_text.proofs.RowTests.{is_inner, is_closed, is_row, row-parts, are_rows, rows-are}
use Rattle.certificate_text.specs.declared.row.Slot.{Slot}
use Rattle.certificate_text.specs.declared.row.Slot.TheVariants.{Must, May}
use Rattle.certificate_text.specs.Taking.{musts, slots, HasForm, take_line, take_lines}
use Rattle.certificate_text.specs.Valid.{IsValid, ValidAll}
use Rattle.certificate_text.specs.Forms.{has_form}
use Rattle.certificate_text.specs.Lines.{lines, body_lines}
use Rattle.problem_defs.specs.Shaped.{IsShaped}
use Rattle.certificate_text.specs.Accepts.{SomeRow, EachRow, Accepts}
use Rattle.certificate_text.specs.MayBegin.{GoesOn, MayBegin, BeginsLines}
use Rattle.certificate_text.proofs.TakingLaws.{take_lines-append, fill, CanFill, completed}
use Rattle.certificate_text.proofs.FormLaws.{valid-join, kind-is}
use Rattle.certificate_text.proofs.HeldRows.{unlike-dual, unlike-end}
use Rattle.certificate_text.proofs.RowLaws.{has-body, accepted}
use Rattle.certificate_text.proofs.TurnedLaws.{or-left}

-- a line of the form
abbrev sample : GraphValue → Form → ℕ → CertLine
sample g form.Value place = line.Value 0
sample g form.Impossible place = line.Impossible
sample g form.Path place = line.Path []
sample g form.Part place = line.Part []
sample g form.Join place = line.Join []
sample g form.Tree place = line.Tree 0 0 0
sample g form.Edge place = line.Edge 0 0
sample g form.Arc place = line.Arc 0 0
sample g form.Turned place = let l = get_or g.lines place no_line in line.Arc l.tail l.head
sample g (form.Dual k) place = line.Dual k
sample g form.Set place = line.Set (replicate (length g.names) false)
sample g form.End place = line.End

-- what is left of a row is an end of it
take_line-tail : (P : List Slot → Type 0) (has_form : HasForm) → ((s : Slot) (left : List Slot) → P (s ∷ left) → P left) → (left next : List Slot) (x : CertLine) → P left → take_line has_form left x ≡ Some next → P next
take_line-tail P has_form tails [] next x p e = cc
take_line-tail P has_form tails (Must f place ∷ left) next x p e = must (has_form f place x) e
  where
    must : (b : Bool) → cond b (Some left) None ≡ Some next → P next
    must true e = let same : left ≡ next = cc in subst P same (tails (Must f place) left p)
    must false e = cc
take_line-tail P has_form tails (May f ∷ left) next x p e = may (λ h. take_line-tail P has_form tails left next x (tails (May f) left p) h) (has_form f 0 x) e
  where
    may : (take_line has_form left x ≡ Some next → P next) → (b : Bool) → cond b (Some (May f ∷ left)) (take_line has_form left x) ≡ Some next → P next
    may again true e = let same : May f ∷ left ≡ next = cc in subst P same p
    may again false e = again e

pub take_lines-tail : (P : List Slot → Type 0) (has_form : HasForm) → ((s : Slot) (left : List Slot) → P (s ∷ left) → P left) → (left after : List Slot) (xs : List CertLine) → P left → take_lines has_form left xs ≡ Some after → P after
take_lines-tail P has_form tails left after [] p e = let same : left ≡ after = cc in subst P same p
take_lines-tail P has_form tails left after (x ∷ xs) p e = by (λ next q h. take_lines-tail P has_form tails next after xs q h) (λ next h. take_line-tail P has_form tails left next x p h) (take_line has_form left x) refl e
  where
    by : ((next : List Slot) → P next → take_lines has_form next xs ≡ Some after → P after) → ((next : List Slot) → take_line has_form left x ≡ Some next → P next) → (o : Option (List Slot)) → take_line has_form left x ≡ o → option_and_then (λ s. take_lines has_form s xs) o ≡ Some after → P after
    by again one None t e = cc
    by again one (Some next) t e = again next (one next t) e

-- a row that can be completed at each place
pub record Fillable (g : GraphValue) (left : List Slot) : Type 0 where
  pub can : CanFill (has_form g) (sample g) left
  pub valid : ValidAll g (fill (sample g) left)

fill-tail : (g : GraphValue) (s : Slot) (left : List Slot) → ValidAll g (fill (sample g) (s ∷ left)) → ValidAll g (fill (sample g) left)
fill-tail g (Must f place) left v = v.1
fill-tail g (May f) left v = v

pub record Completed (g : GraphValue) (rows : List (List Piece)) (xs : List CertLine) : Type 0 where
  pub more : List CertLine
  pub valid : ValidAll g more
  pub takes : SomeRow (λ row. take_lines (has_form g) (slots (length g.lines) row) (xs ++ more) ≡ Some []) rows

complete-rows : (g : GraphValue) (rows : List (List Piece)) (xs : List CertLine) → EachRow (λ row. Fillable g (slots (length g.lines) row)) rows
    → SomeRow (λ row. (left : List Slot) × (take_lines (has_form g) (slots (length g.lines) row) xs ≡ Some left)) rows → Completed g rows xs
complete-rows g [] xs each some = absurd some
complete-rows g (row ∷ rows) xs each (inl (left, e)) =
    let here = each.0 in
    record {
      more = fill (sample g) left;
      valid = take_lines-tail (λ s. ValidAll g (fill (sample g) s)) (has_form g) (fill-tail g) (slots (length g.lines) row) left xs here.valid e;
      takes = inl (completed (has_form g) (sample g) (slots (length g.lines) row) left xs here.can e);
    }
complete-rows g (row ∷ rows) xs each (inr some) =
    let c = complete-rows g rows xs each.1 some in
    record { more = c.more; valid = c.valid; takes = inr c.takes }

-- ---- each row of the table

empty_long : (n : ℕ) → length (replicate n false) ≡ n
empty_long zero = refl
empty_long (suc n) = ap suc (empty_long n)

zero_fits : 0 < 2 ^ 64
zero_fits = omega arith

turned_can : (g : GraphValue) (place more : ℕ) (left : List Slot) → CanFill (has_form g) (sample g) left → CanFill (has_form g) (sample g) (musts form.Turned place more ++ left)
turned_can g place zero left can = can
turned_can g place (suc more) left can =
    let l = get_or g.lines place no_line in
    (or-left ((l.tail == l.tail) && (l.head == l.head)) _ (λ i. eq-eqb l.tail l.tail refl i && eq-eqb l.head l.head refl i), turned_can g (suc place) more left can)

turned_valid : (g : GraphValue) (place more : ℕ) (left : List Slot) → All (Fits (length g.names)) g.lines → place + more ≤ length g.lines → ValidAll g (fill (sample g) left) → ValidAll g (fill (sample g) (musts form.Turned place more ++ left))
turned_valid g place zero left fit within valid = valid
turned_valid g place (suc more) left fit within valid =
    let here = fit place no_line (omega (arith, within)) in
    ((here.tail, here.head), turned_valid g (suc place) more left fit (omega (arith, within)) valid)

-- the sample of each form but that of turned edges
sample_valid : (g : GraphValue) (f : Form) → IsGraph g → f ≢ form.Turned → IsValid g (sample g f 0)
sample_valid g form.Value is other = zero_fits
sample_valid g form.Path is other = All-nil (λ j. j < length g.lines)
sample_valid g form.Part is other = All-nil (λ j. j < length g.lines)
sample_valid g form.Join is other = All-nil (λ j. j < length g.lines)
sample_valid g form.Tree is other = (is.makes.some, is.makes.some, zero_fits)
sample_valid g form.Edge is other = (is.makes.some, is.makes.some)
sample_valid g form.Arc is other = (is.makes.some, is.makes.some)
sample_valid g form.Turned is other = absurd (other refl)
sample_valid g form.Set is other = empty_long _
sample_valid g f is other = tt

sample_fits : (g : GraphValue) (f : Form) → f ≢ form.Turned → has_form g f 0 (sample g f 0) ≡ true
sample_fits g form.Turned other = absurd (other refl)
sample_fits g (form.Dual k) other = kind-is k
sample_fits g f other = refl

-- one piece more in front of slots that can be filled
piece-fillable : (g : GraphValue) (piece other : Piece) (row : List Piece) → IsGraph g → is_inner piece ≡ true → is_closed piece other ≡ true → Fillable g (slots (length g.lines) (other ∷ row)) → Fillable g (slots (length g.lines) (piece ∷ other ∷ row))
piece-fillable g (One form.Turned) other row is inner closed rest = absurd (true≢false (sym inner))
piece-fillable g (One f) other row is inner closed rest = record { can = (sample_fits g f (λ e. cc), rest.can); valid = (sample_valid g f is (λ e. cc), rest.valid) }
piece-fillable g (Any f) (One (form.Dual k)) row is inner closed rest = record { can = (unlike-dual g f k inner, rest.can); valid = rest.valid }
piece-fillable g (Any f) (One form.End) row is inner closed rest = record { can = (unlike-end g f inner, rest.can); valid = rest.valid }
piece-fillable g (Any f) other row is inner closed rest = absurd (true≢false (sym closed))
piece-fillable g (EachLine form.Turned) other row is inner closed rest = record {
  can = turned_can g 0 (length g.lines) (slots (length g.lines) (other ∷ row)) rest.can;
  valid = turned_valid g 0 (length g.lines) (slots (length g.lines) (other ∷ row)) is.makes.ends (omega arith) rest.valid;
}
piece-fillable g (EachLine f) other row is inner closed rest = absurd (true≢false (sym inner))

row-fillable : (g : GraphValue) (row : List Piece) → IsGraph g → is_row row ≡ true → Fillable g (slots (length g.lines) row)
row-fillable g [] is row = absurd (true≢false (sym row))
row-fillable g (One form.End ∷ []) is row = record { can = (refl, tt); valid = (tt, tt) }
row-fillable g (piece ∷ []) is row = absurd (true≢false (sym row))
row-fillable g (piece ∷ other ∷ more) is row =
    let (inner, closed, rest) = row-parts piece other more row in
    piece-fillable g piece other more is inner closed (row-fillable g (other ∷ more) is rest)

rows-fillable : (g : GraphValue) (rs : List (List Piece)) → IsGraph g → are_rows rs ≡ true → EachRow (λ row. Fillable g (slots (length g.lines) row)) rs
rows-fillable g [] is are = tt
rows-fillable g (row ∷ rs) is are =
    let (here, more) = and_parts (is_row row) (are_rows rs) are in
    (row-fillable g row is here, rows-fillable g rs is more)

-- ---- an ask for each graph

pub record Suited (g : GraphValue) : Type 0 where
  pub ask : Ask
  pub k : KIsInRange ask
  pub suits : misfit_of g ask ≡ None

undirected_suits : (g : GraphValue) → g.kind ≡ Undirected → misfit_of g (ask.Augment 1) ≡ None
undirected_suits g e = ap (λ k. misfit_of (record g { kind = k }) (ask.Augment 1)) e

directed_suits : (g : GraphValue) → g.kind ≡ Directed → misfit_of g (ask.AugmentArcs 1) ≡ None
directed_suits g e = ap (λ k. misfit_of (record g { kind = k }) (ask.AugmentArcs 1)) e

some-ask : (g : GraphValue) → Suited g
some-ask g = by g.kind refl
  where
    by : (kind : Kind) → g.kind ≡ kind → Suited g
    by Undirected e = record { ask = ask.Augment 1; k = (omega arith, omega arith); suits = undirected_suits g e }
    by Directed e = record { ask = ask.AugmentArcs 1; k = (omega arith, omega arith); suits = directed_suits g e }

-- ---- the two directions

-- a row of each ask takes no line at first
pub some-row : (g : GraphValue) (x : Ask) → GoesOn g x []
some-row g (ask.Flow s t) = inl (_, refl)
some-row g x = inl (_, refl)

begins-rest : (g : GraphValue) (x : Ask) (zs : List CertLine) → IsGraph g → KIsInRange x → misfit_of g x ≡ None → ValidAll g zs → GoesOn g x zs → BeginsLines g (line.Title ∷ line.Command x ∷ zs)
begins-rest g x zs is k suits valid goes_on =
    let c = complete-rows g (rows x) zs (rows-fillable g (rows x) is (rows-are x)) goes_on in
    let b = has-body g x (zs ++ c.more) (valid-join g zs c.more valid c.valid) c.takes in
    record {
      cert = record { ask = x; body = b.body };
      shaped = record { k = k; suits = suits; belongs = b.belongs; in_range = b.in_range; numbers_fit = b.numbers_fit };
      more = c.more;
      is = ap (λ l. line.Title ∷ line.Command x ∷ l) b.lines_are;
    }

pub allowed-begins : (g : GraphValue) (xs : List CertLine) → IsGraph g → ValidAll g xs → MayBegin g xs → BeginsLines g xs
allowed-begins g [] is valid allowed =
    let s = some-ask g in
    let b = begins-rest g s.ask [] is s.k s.suits tt (some-row g s.ask) in
    record { cert = b.cert; shaped = b.shaped; more = line.Title ∷ line.Command s.ask ∷ b.more; is = b.is }
allowed-begins g (x ∷ []) is valid allowed =
    let s = some-ask g in
    let b = begins-rest g s.ask [] is s.k s.suits tt (some-row g s.ask) in
    record { cert = b.cert; shaped = b.shaped; more = line.Command s.ask ∷ b.more; is = b.is ∙ ap (λ t. t ∷ line.Command s.ask ∷ b.more) (sym allowed) }
allowed-begins g (x ∷ y ∷ zs) is valid allowed =
    let (title, (a, command, goes_on)) = allowed in
    let ok = subst (IsValid g) command valid.1.0 in
    let b = begins-rest g a zs is ok.0 ok.1 valid.1.1 goes_on in
    record { cert = b.cert; shaped = b.shaped; more = b.more; is = b.is ∙ (λ i. sym title i ∷ sym command i ∷ (zs ++ b.more)) }

front-taken : (has_form : HasForm) (left : List Slot) (xs more : List CertLine) → take_lines has_form left (xs ++ more) ≡ Some [] → (after : List Slot) × (take_lines has_form left xs ≡ Some after)
front-taken has_form left xs more e = by (take_lines has_form left xs) refl (sym (take_lines-append has_form left xs more) ∙ e)
  where
    by : (o : Option (List Slot)) → take_lines has_form left xs ≡ o → option_and_then (λ s. take_lines has_form s more) o ≡ Some [] → (after : List Slot) × (take_lines has_form left xs ≡ Some after)
    by None t e = cc
    by (Some after) t e = (after, t)

front-goes_on : (g : GraphValue) (rows : List (List Piece)) (xs more : List CertLine) → SomeRow (λ row. take_lines (has_form g) (slots (length g.lines) row) (xs ++ more) ≡ Some []) rows
    → SomeRow (λ row. (left : List Slot) × (take_lines (has_form g) (slots (length g.lines) row) xs ≡ Some left)) rows
front-goes_on g [] xs more some = absurd some
front-goes_on g (row ∷ rows) xs more (inl e) = inl (front-taken (has_form g) (slots (length g.lines) row) xs more e)
front-goes_on g (row ∷ rows) xs more (inr some) = inr (front-goes_on g rows xs more some)

pub begins-allowed : (g : GraphValue) (xs more : List CertLine) (cert : Cert) → IsShaped g cert → lines g cert ≡ xs ++ more → MayBegin g xs
begins-allowed g [] more cert w e = tt
begins-allowed g (x ∷ []) more cert w e = cc
begins-allowed g (x ∷ y ∷ zs) more cert w e =
    let title : x ≡ line.Title = cc in
    let command : y ≡ line.Command cert.ask = cc in
    let rest : body_lines g cert.ask cert.body ≡ zs ++ more = cc in
    let takes = accepted g cert.ask cert.body w.belongs w.in_range in
    (title, (cert.ask, command, front-goes_on g (rows cert.ask) zs more (subst (Accepts g cert.ask) rest takes)))
