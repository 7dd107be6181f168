-- What the lines of a row hold, gathered.
use Rattle.std.proofs.Common.{◌≡◌, ◌≢◌, ℕ, ◌==◌, Bool, true, false, cond, List, [], ◌∷◌, ◌++◌, map, length, refl, sym, ap, ◌∙◌, append_assoc, append-nil, All, eq-eqb, arith}
use Rattle.std.proofs.lemmas.Bool.Decides.{nat_tests}
use Rattle.std.proofs.lemmas.List.Elements.{All-head, All-tail}
use Rattle.graph_core.specs.Graph.{GraphValue, Fits}
use Rattle.graph_core.specs.declared.graph.Line.{Line}
use Rattle.certificate_text.specs.declared.line.CertLine.{CertLine}
use Rattle.certificate_text.specs.declared.line.CertLine.TheVariants as line
use Rattle.certificate_text.specs.declared.row.Form.{Form}
use Rattle.certificate_text.specs.declared.row.Form.TheVariants as form
use Rattle.certificate_text.specs.declared.row.Piece.{Piece}
use Rattle.certificate_text.specs.declared.row.Piece.TheVariants.{One, Any, EachLine}
use Rattle.certificate_text.specs.declared.gather.Gathered.{Gathered}
use Rattle.certificate_text.specs.Lines.{turned_lines}
use Rattle.certificate_text.specs.Gather.{with_line, gather, heads_of}
use Rattle.certificate_text.proofs.HeldRows.{Holds, made, HeldPiece, piece_lines, Held, held_lines}

gather-append : (c : Gathered) (xs ys : List CertLine) → gather c (xs ++ ys) ≡ gather (gather c xs) ys
gather-append c [] ys = refl
gather-append c (x ∷ xs) ys = gather-append (with_line c x) xs ys

-- lines of one form add to one list
abbrev with_all : (f : Form) → List (Holds f) → Gathered → Gathered
with_all form.Path held c = record c { rows = c.rows ++ held }
with_all form.Part held c = record c { rows = c.rows ++ held }
with_all form.Join held c = record c { rows = c.rows ++ held }
with_all form.Tree held c = record c { trees = c.trees ++ held }
with_all form.Edge held c = record c { pairs = c.pairs ++ held }
with_all form.Arc held c = record c { pairs = c.pairs ++ held }
with_all form.Set held c = record c { sides = c.sides ++ held }
with_all f held c = gather c (map (made f) held)

gather-map : (f : Form) (held : List (Holds f)) (c : Gathered) → gather c (map (made f) held) ≡ with_all f held c
gather-map form.Path [] c = ap (λ l. record c { rows = l }) (sym (append-nil c.rows))
gather-map form.Path (js ∷ held) c = gather-map form.Path held (with_line c (line.Path js)) ∙ ap (λ l. record c { rows = l }) (append_assoc c.rows (js ∷ []) held)
gather-map form.Part [] c = ap (λ l. record c { rows = l }) (sym (append-nil c.rows))
gather-map form.Part (js ∷ held) c = gather-map form.Part held (with_line c (line.Part js)) ∙ ap (λ l. record c { rows = l }) (append_assoc c.rows (js ∷ []) held)
gather-map form.Join [] c = ap (λ l. record c { rows = l }) (sym (append-nil c.rows))
gather-map form.Join (js ∷ held) c = gather-map form.Join held (with_line c (line.Join js)) ∙ ap (λ l. record c { rows = l }) (append_assoc c.rows (js ∷ []) held)
gather-map form.Tree [] c = ap (λ l. record c { trees = l }) (sym (append-nil c.trees))
gather-map form.Tree (p ∷ held) c = gather-map form.Tree held (with_line c (line.Tree p.0 p.1 p.2)) ∙ ap (λ l. record c { trees = l }) (append_assoc c.trees (p ∷ []) held)
gather-map form.Edge [] c = ap (λ l. record c { pairs = l }) (sym (append-nil c.pairs))
gather-map form.Edge (p ∷ held) c = gather-map form.Edge held (with_line c (line.Edge p.0 p.1)) ∙ ap (λ l. record c { pairs = l }) (append_assoc c.pairs (p ∷ []) held)
gather-map form.Arc [] c = ap (λ l. record c { pairs = l }) (sym (append-nil c.pairs))
gather-map form.Arc (p ∷ held) c = gather-map form.Arc held (with_line c (line.Arc p.0 p.1)) ∙ ap (λ l. record c { pairs = l }) (append_assoc c.pairs (p ∷ []) held)
gather-map form.Set [] c = ap (λ l. record c { sides = l }) (sym (append-nil c.sides))
gather-map form.Set (X ∷ held) c = gather-map form.Set held (with_line c (line.Set X)) ∙ ap (λ l. record c { sides = l }) (append_assoc c.sides (X ∷ []) held)
gather-map f held c = refl

-- an orientation's lines are arcs
abbrev turned_pairs : List Line → List Bool → List (ℕ × ℕ)
turned_pairs [] heads = []
turned_pairs (l ∷ ls) [] = []
turned_pairs (l ∷ ls) (b ∷ heads) = cond b (l.tail, l.head) (l.head, l.tail) ∷ turned_pairs ls heads

turned_arcs : (ls : List Line) (heads : List Bool) → turned_lines ls heads ≡ map (made form.Arc) (turned_pairs ls heads)
turned_arcs [] heads = refl
turned_arcs (l ∷ ls) [] = refl
turned_arcs (l ∷ ls) (true ∷ heads) = ap (λ x. line.Arc l.tail l.head ∷ x) (turned_arcs ls heads)
turned_arcs (l ∷ ls) (false ∷ heads) = ap (λ x. line.Arc l.head l.tail ∷ x) (turned_arcs ls heads)

not_same : (a b : ℕ) → a ≢ b → (b == a) ≡ false
not_same a b apart = grind (arith, nat_tests)

pub heads-back : (n : ℕ) (ls : List Line) (heads : List Bool) → All (Fits n) ls → length heads ≡ length ls → heads_of ls (turned_pairs ls heads) ≡ heads
heads-back n [] [] fit e = refl
heads-back n [] (b ∷ heads) fit e = absurd (omega (arith, e))
heads-back n (l ∷ ls) [] fit e = absurd (omega (arith, e))
heads-back n (l ∷ ls) (true ∷ heads) fit e =
    let shorter : length heads ≡ length ls = omega (arith, e) in
    λ i. eq-eqb l.tail l.tail refl i ∷ heads-back n ls heads (All-tail (Fits n) l ls fit) shorter i
heads-back n (l ∷ ls) (false ∷ heads) fit e =
    let shorter : length heads ≡ length ls = omega (arith, e) in
    let here = All-head (Fits n) l ls fit in
    λ i. not_same l.tail l.head here.apart i ∷ heads-back n ls heads (All-tail (Fits n) l ls fit) shorter i

-- the content with what a piece holds, and with what a row holds
abbrev pub piece_content : (g : GraphValue) (piece : Piece) → HeldPiece g piece → Gathered → Gathered
piece_content g (One f) held c = with_line c (made f held)
piece_content g (Any f) held c = with_all f held c
piece_content g (EachLine f) held c = with_all form.Arc (turned_pairs g.lines held.0) c

abbrev pub row_content : (g : GraphValue) (row : List Piece) → Held g row → Gathered → Gathered
row_content g [] held c = c
row_content g (piece ∷ row) held c = row_content g row held.1 (piece_content g piece held.0 c)

gather-piece : (g : GraphValue) (piece : Piece) (held : HeldPiece g piece) (c : Gathered) → gather c (piece_lines g piece held) ≡ piece_content g piece held c
gather-piece g (One f) held c = refl
gather-piece g (Any f) held c = gather-map f held c
gather-piece g (EachLine f) held c = ap (gather c) (turned_arcs g.lines held.0) ∙ gather-map form.Arc (turned_pairs g.lines held.0) c

pub gather-row : (g : GraphValue) (row : List Piece) (held : Held g row) (c : Gathered) → gather c (held_lines g row held) ≡ row_content g row held c
gather-row g [] held c = refl
gather-row g (piece ∷ row) held c =
    gather-append c (piece_lines g piece held.0) (held_lines g row held.1)
    ∙ ap (λ d. gather d (held_lines g row held.1)) (gather-piece g piece held.0 c)
    ∙ gather-row g row held.1 (piece_content g piece held.0 c)
