-- The lines of a body are what its row takes, and it is read off them. A further row has a line in `in-row` and one in `row-body`.
use Rattle.std.proofs.Common.{◌≡◌, true, List, [], ◌∷◌, length, refl, sym, ap, subst, ◌∙◌, inl, inr, Some}
use Rattle.std.proofs.lemmas.Bool.{and_parts}
use Rattle.graph_core.specs.Graph.{GraphValue, IsGraph}
use Rattle.problem_defs.specs.Shaped.{Belongs, IsInRange, IsShaped}
use Rattle.problem_defs.specs.declared.ask.Ask.{Ask}
use Rattle.problem_defs.specs.declared.ask.Ask.TheVariants as ask
use Rattle.problem_defs.specs.declared.cert.Body.{Body}
use Rattle.problem_defs.specs.declared.cert.Body.TheVariants as body
use Rattle.problem_defs.specs.declared.cert.Cert.{Cert}
use Rattle.problem_defs.specs.declared.cert.PartsDual.TheVariants as parts
use Rattle.problem_defs.specs.declared.cert.Way.TheVariants.{Entering, Leaving}
use Rattle.certificate_text.specs.declared.line.CertLine.{CertLine}
use Rattle.certificate_text.specs.declared.row.Piece.{Piece}
use Rattle.certificate_text.specs.Table.{rows, row_of}
use Rattle.certificate_text.specs.Taking.{slots, take_lines}
use Rattle.certificate_text.specs.Valid.{ValidAll}
use Rattle.certificate_text.specs.Forms.{has_form}
use Rattle.certificate_text.specs.Lines.{body_lines, lines}
use Rattle.certificate_text.specs.Gather.{nothing, gather, body_of}
use Rattle.certificate_text.specs.Accepts.{SomeRow, EachRow, Accepts, HasBody}
use Rattle.certificate_text.proofs.RowTests.{is_row, are_rows, rows-are}
use Rattle.certificate_text.proofs.HeldRows.{Held, held_lines, IsValidHeld, Taken, rows-read, taken-by, held-taken}
use Rattle.certificate_text.proofs.GatherLaws.{row_content, gather-row, heads-back}

-- ---- from a body to its lines, and back

-- what the body holds in the pieces of its row
pub record InRow (g : GraphValue) (x : Ask) (b : Body) : Type 0 where
  pub held : Held g (row_of x b)
  pub lines_are : held_lines g (row_of x b) held ≡ body_lines g x b
  pub picked : SomeRow (λ row. row ≡ row_of x b) (rows x)
  pub back : IsGraph g → body_of g x (row_content g (row_of x b) held nothing) ≡ b

in-row : (g : GraphValue) (x : Ask) (b : Body) → Belongs x b → IsInRange (length g.names) (length g.lines) b → InRow g x b
in-row g (ask.Flow s t) (body.Walks value rows cut) belongs range = record { held = (value, (rows, (tt, (cut, (tt, tt))))); lines_are = refl; picked = inl refl; back = λ _. refl }
in-row g ask.CutTree (body.Tree pairs) belongs range = record { held = (pairs, (tt, tt)); lines_are = refl; picked = inl refl; back = λ _. refl }
in-row g (ask.Augment k) (body.Edges value pairs sides) belongs range = record { held = (value, (pairs, (tt, (sides, (tt, tt))))); lines_are = refl; picked = inl refl; back = λ _. refl }
in-row g (ask.AugmentArcs k) (body.Arcs value pairs Entering sides) belongs range = record { held = (value, (pairs, (tt, (sides, (tt, tt))))); lines_are = refl; picked = inl refl; back = λ _. refl }
in-row g (ask.AugmentArcs k) (body.Arcs value pairs Leaving sides) belongs range = record { held = (value, (pairs, (tt, (sides, (tt, tt))))); lines_are = refl; picked = inr (inl refl); back = λ _. refl }
in-row g (ask.Arborescences r) (body.Parts value rows (parts.Cut side)) belongs range = record { held = (value, (rows, (tt, (side, (tt, tt))))); lines_are = refl; picked = inl refl; back = λ _. refl }
in-row g ask.Trees (body.Parts value rows (parts.Partition sides)) belongs range = record { held = (value, (rows, (tt, (sides, (tt, tt))))); lines_are = refl; picked = inl refl; back = λ _. refl }
in-row g ask.Forests (body.Parts value rows (parts.Induced side)) belongs range = record { held = (value, (rows, (tt, (side, (tt, tt))))); lines_are = refl; picked = inl refl; back = λ _. refl }
in-row g ask.Forests (body.Parts value rows parts.Nothing) belongs range = record { held = (value, (rows, (tt, (tt, tt)))); lines_are = refl; picked = inr (inl refl); back = λ _. refl }
in-row g (ask.Orient k) (body.Turned heads) belongs range = record { held = ((heads, range), (tt, tt)); lines_are = refl; picked = inl refl; back = λ is. ap body.Turned (heads-back (length g.names) g.lines heads is.makes.ends range) }
in-row g (ask.Orient k) (body.Never side) belongs range = record { held = (tt, (tt, (side, (tt, tt)))); lines_are = refl; picked = inr (inl refl); back = λ _. refl }
in-row g ask.Dijoin (body.Join value numbers sides) belongs range = record { held = (value, (numbers, (tt, (sides, (tt, tt))))); lines_are = refl; picked = inl refl; back = λ _. refl }
in-row g ask.Dijoin (body.Never side) belongs range = record { held = (tt, (tt, (side, (tt, tt)))); lines_are = refl; picked = inr (inl refl); back = λ _. refl }
in-row g x b belongs range = absurd belongs

row-takes : (g : GraphValue) (rs : List (List Piece)) (row : List Piece) (ys : List CertLine) → are_rows rs ≡ true → SomeRow (λ r. r ≡ row) rs → (is_row row ≡ true → take_lines (has_form g) (slots (length g.lines) row) ys ≡ Some []) → SomeRow (λ r. take_lines (has_form g) (slots (length g.lines) r) ys ≡ Some []) rs
row-takes g [] row ys are some runs = some
row-takes g (r ∷ rs) row ys are (inl e) runs =
    let here = subst (λ p. is_row p ≡ true) e (and_parts (is_row r) (are_rows rs) are).0 in
    inl (subst (λ p. take_lines (has_form g) (slots (length g.lines) p) ys ≡ Some []) (sym e) (runs here))
row-takes g (r ∷ rs) row ys are (inr some) runs = inr (row-takes g rs row ys (and_parts (is_row r) (are_rows rs) are).1 some runs)

pub accepted : (g : GraphValue) (x : Ask) (b : Body) → Belongs x b → IsInRange (length g.names) (length g.lines) b → Accepts g x (body_lines g x b)
accepted g x b belongs range =
    let i = in-row g x b belongs range in
    let runs = λ (is : is_row (row_of x b) ≡ true). subst (λ ys. take_lines (has_form g) (slots (length g.lines) (row_of x b)) ys ≡ Some []) i.lines_are (held-taken g (row_of x b) i.held is) in
    row-takes g (rows x) (row_of x b) (body_lines g x b) (rows-are x) i.picked runs

pub body-back : (g : GraphValue) (x : Ask) (b : Body) → IsGraph g → Belongs x b → IsInRange (length g.names) (length g.lines) b → body_of g x (gather nothing (body_lines g x b)) ≡ b
body-back g x b is belongs range =
    let i = in-row g x b belongs range in
    ap (λ ys. body_of g x (gather nothing ys)) (sym i.lines_are) ∙ ap (body_of g x) (gather-row g (row_of x b) i.held nothing) ∙ i.back is

-- the lines of two certificates differ
pub lines-same : (g : GraphValue) (a b : Cert) → IsGraph g → IsShaped g a → IsShaped g b → lines g a ≡ lines g b → a ≡ b
lines-same g a b is wa wb e =
    let ask : a.ask ≡ b.ask = cc in
    let rest : body_lines g a.ask a.body ≡ body_lines g b.ask b.body = cc in
    let back = body-back g a.ask a.body is wa.belongs wa.in_range in
    let other = body-back g b.ask b.body is wb.belongs wb.in_range in
    let body : a.body ≡ b.body = sym back ∙ (λ i. body_of g (ask i) (gather nothing (rest i))) ∙ other in
    λ i. record { ask = ask i; body = body i }

-- ---- from lines to a body

-- how a body is made of what a row holds
abbrev Makes : GraphValue → Ask → List CertLine → List Piece → Type 0
Makes g x ys row = (held : Held g row) → IsValidHeld g row held → ys ≡ held_lines g row held → HasBody g x ys

by-row : (g : GraphValue) (x : Ask) (ys : List CertLine) (rs : List (List Piece)) → EachRow (Makes g x ys) rs → SomeRow (λ row. Taken g row ys) rs → HasBody g x ys
by-row g x ys [] each some = absurd some
by-row g x ys (row ∷ rs) each (inl r) = each.0 r.held r.valid r.is
by-row g x ys (row ∷ rs) each (inr some) = by-row g x ys rs each.1 some

row-body : (g : GraphValue) (x : Ask) (ys : List CertLine) → EachRow (Makes g x ys) (rows x)
row-body g (ask.Flow s t) ys = (λ (value, (rows, (_, (cut, _)))) (fit, (each, (_, (long, _)))) is. record { body = body.Walks value rows cut; belongs = tt; in_range = (each, long); numbers_fit = fit; lines_are = sym is }, tt)
row-body g ask.CutTree ys = (λ (pairs, _) (each, _) is. record { body = body.Tree pairs; belongs = tt; in_range = λ k d l. ((each k d l).0, (each k d l).1); numbers_fit = λ k d l. (each k d l).2; lines_are = sym is }, tt)
row-body g (ask.Augment k) ys = (λ (value, (pairs, (_, (sides, _)))) (fit, (each, (_, (long, _)))) is. record { body = body.Edges value pairs sides; belongs = tt; in_range = (each, long); numbers_fit = fit; lines_are = sym is }, tt)
row-body g (ask.AugmentArcs k) ys = (
  λ (value, (pairs, (_, (sides, _)))) (fit, (each, (_, (long, _)))) is. record { body = body.Arcs value pairs Entering sides; belongs = tt; in_range = (each, long); numbers_fit = fit; lines_are = sym is },
  (λ (value, (pairs, (_, (sides, _)))) (fit, (each, (_, (long, _)))) is. record { body = body.Arcs value pairs Leaving sides; belongs = tt; in_range = (each, long); numbers_fit = fit; lines_are = sym is }, tt),
)
row-body g (ask.Arborescences root) ys = (λ (value, (rows, (_, (side, _)))) (fit, (each, (_, (long, _)))) is. record { body = body.Parts value rows (parts.Cut side); belongs = tt; in_range = (each, long); numbers_fit = fit; lines_are = sym is }, tt)
row-body g ask.Trees ys = (λ (value, (rows, (_, (sides, _)))) (fit, (each, (_, (long, _)))) is. record { body = body.Parts value rows (parts.Partition sides); belongs = tt; in_range = (each, long); numbers_fit = fit; lines_are = sym is }, tt)
row-body g ask.Forests ys = (
  λ (value, (rows, (_, (side, _)))) (fit, (each, (_, (long, _)))) is. record { body = body.Parts value rows (parts.Induced side); belongs = tt; in_range = (each, long); numbers_fit = fit; lines_are = sym is },
  (λ (value, (rows, _)) (fit, (each, _)) is. record { body = body.Parts value rows parts.Nothing; belongs = tt; in_range = (each, tt); numbers_fit = fit; lines_are = sym is }, tt),
)
row-body g (ask.Orient k) ys = (
  λ (turned, _) _ is. record { body = body.Turned turned.0; belongs = tt; in_range = turned.1; numbers_fit = tt; lines_are = sym is },
  (λ (_, (_, (side, _))) (_, (_, (long, _))) is. record { body = body.Never side; belongs = tt; in_range = long; numbers_fit = tt; lines_are = sym is }, tt),
)
row-body g ask.Dijoin ys = (
  λ (value, (numbers, (_, (sides, _)))) (fit, (each, (_, (long, _)))) is. record { body = body.Join value numbers sides; belongs = tt; in_range = (each, long); numbers_fit = fit; lines_are = sym is },
  (λ (_, (_, (side, _))) (_, (_, (long, _))) is. record { body = body.Never side; belongs = tt; in_range = long; numbers_fit = tt; lines_are = sym is }, tt),
)

pub has-body : (g : GraphValue) (x : Ask) (ys : List CertLine) → ValidAll g ys → Accepts g x ys → HasBody g x ys
has-body g x ys valid some = by-row g x ys (rows x) (row-body g x ys) (taken-by g (rows x) ys (rows-read x) some valid)
