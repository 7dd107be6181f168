-- Texts as bytes: one certificate at the front, and the least bad line.
use Rattle.std.proofs.Common.{◌≡◌, ◌≢◌, ℕ, Bool, true, false, List, [], ◌∷◌, ◌++◌, map, length, refl, sym, ap, ◌∙◌, append_assoc, append-nil, true≢false}
use Rattle.std.specs.List.{flat_map}
use Rattle.std.proofs.lemmas.List.{append_cancel_left}
use Rattle.graph_core.specs.Graph.{GraphValue, IsGraph}
use Rattle.problem_defs.specs.declared.ask.Ask.{Ask}
use Rattle.problem_defs.specs.declared.ask.Ask.TheVariants as ask
use Rattle.problem_defs.specs.declared.cert.Body.{Body}
use Rattle.problem_defs.specs.declared.cert.Cert.{Cert}
use Rattle.graph_core.specs.declared.graph.Line.{Line}
use Rattle.certificate_text.specs.declared.line.CertLine.{CertLine}
use Rattle.certificate_text.specs.declared.line.CertLine.TheVariants as line
use Rattle.certificate_text.specs.declared.row.Form.{Form}
use Rattle.certificate_text.specs.declared.row.Form.TheVariants as form
use Rattle.certificate_text.specs.declared.row.Piece.{Piece}
use Rattle.certificate_text.specs.declared.row.Piece.TheVariants.{One, Any, EachLine}
use Rattle.certificate_text.specs.Table.{rows, pick, is_second, row_of}
use Rattle.certificate_text.specs.Words.{spelled}
use Rattle.certificate_text.specs.Valid.{ValidAll}
use Rattle.certificate_text.specs.Lines.{lines, turned_lines, form_lines, form_of, rows_in, tree_in, pairs_in, heads_in, sides_in}
use Rattle.problem_defs.specs.Shaped.{IsShaped}
use Rattle.certificate_text.specs.MayBegin.{is_end, NoEnd}
use Rattle.certificate_text.specs.Front.{IsAtFront}
use Rattle.certificate_text.specs.Text.{unlines, text}
use Rattle.certificate_text.specs.BadLine.{whole_lines}
use Rattle.certificate_text.proofs.WordLaws.{NoFeeds, whole-unlines}
use Rattle.certificate_text.proofs.SpellLaws.{spelled-same, spelled-no_feed}
use Rattle.certificate_text.proofs.RowLaws.{lines-same}
use Rattle.certificate_text.proofs.RowTests.{is_inner, is_row, row-parts}
use Rattle.certificate_text.proofs.ValidLaws.{valid-lines}

-- ---- the last line alone is the end

pub record Ends (xs : List CertLine) : Type 0 where
  pub front : List CertLine
  pub is : xs ≡ front ++ line.End ∷ []
  pub none : NoEnd front

no_end-map : (A : Type 0) (c : A → CertLine) → ((a : A) → is_end (c a) ≡ false) → (values : List A) → NoEnd (map c values)
no_end-map A c each [] = tt
no_end-map A c each (a ∷ values) = (each a, no_end-map A c each values)

no_end-join : (xs ys : List CertLine) → NoEnd xs → NoEnd ys → NoEnd (xs ++ ys)
no_end-join [] ys a b = b
no_end-join (x ∷ xs) ys a b = (a.0, no_end-join xs ys a.1 b)

no_end-turned : (ls : List Line) (heads : List Bool) → NoEnd (turned_lines ls heads)
no_end-turned [] heads = tt
no_end-turned (l ∷ ls) [] = tt
no_end-turned (l ∷ ls) (true ∷ heads) = (refl, no_end-turned ls heads)
no_end-turned (l ∷ ls) (false ∷ heads) = (refl, no_end-turned ls heads)

after : (x : CertLine) (xs : List CertLine) → is_end x ≡ false → Ends xs → Ends (x ∷ xs)
after x xs e ends = record { front = x ∷ ends.front; is = ap (λ l. x ∷ l) ends.is; none = (e, ends.none) }

behind : (xs ys : List CertLine) → NoEnd xs → Ends ys → Ends (xs ++ ys)
behind xs ys none ends = record { front = xs ++ ends.front; is = ap (λ l. xs ++ l) ends.is ∙ sym (append_assoc xs ends.front (line.End ∷ [])); none = no_end-join xs ends.front none ends.none }

-- ---- a row has its end at its end alone

-- the row of a body
row-is : (x : Ask) (second : Bool) → is_row (pick (rows x) second) ≡ true
row-is (ask.Flow s t) true = refl
row-is (ask.Flow s t) false = refl
row-is x true = refl
row-is x false = refl

no_end-form : (g : GraphValue) (b : Body) (f : Form) → f ≢ form.End → NoEnd (form_lines g b f)
no_end-form g b form.Path other = no_end-map (List ℕ) line.Path (λ p. refl) (rows_in b)
no_end-form g b form.Part other = no_end-map (List ℕ) line.Part (λ p. refl) (rows_in b)
no_end-form g b form.Join other = no_end-map (List ℕ) line.Join (λ p. refl) (rows_in b)
no_end-form g b form.Tree other = no_end-map (ℕ × ℕ × ℕ) (λ p. line.Tree p.0 p.1 p.2) (λ p. refl) (tree_in b)
no_end-form g b form.Edge other = no_end-map (ℕ × ℕ) (λ p. line.Edge p.0 p.1) (λ p. refl) (pairs_in b)
no_end-form g b form.Arc other = no_end-map (ℕ × ℕ) (λ p. line.Arc p.0 p.1) (λ p. refl) (pairs_in b)
no_end-form g b form.Turned other = no_end-turned g.lines (heads_in b)
no_end-form g b form.Set other = no_end-map (List Bool) line.Set (λ X. refl) (sides_in b)
no_end-form g b form.End other = absurd (other refl)
no_end-form g b f other = (refl, tt)

-- an inner piece is no end
inner-form : (piece : Piece) → is_inner piece ≡ true → form_of piece ≢ form.End
inner-form (One form.End) inner = absurd (true≢false (sym inner))
inner-form (Any form.End) inner = absurd (true≢false (sym inner))
inner-form (EachLine form.End) inner = absurd (true≢false (sym inner))
inner-form (One f) inner = λ e. cc
inner-form (Any f) inner = λ e. cc
inner-form (EachLine f) inner = λ e. cc

ends-row : (g : GraphValue) (b : Body) (row : List Piece) → is_row row ≡ true → Ends (flat_map (λ piece. form_lines g b (form_of piece)) row)
ends-row g b [] is = absurd (true≢false (sym is))
ends-row g b (One form.End ∷ []) is = record { front = []; is = refl; none = tt }
ends-row g b (piece ∷ []) is = absurd (true≢false (sym is))
ends-row g b (piece ∷ other ∷ row) is =
    let (inner, closed, rest) = row-parts piece other row is in
    behind (form_lines g b (form_of piece)) _ (no_end-form g b (form_of piece) (inner-form piece inner)) (ends-row g b (other ∷ row) rest)

pub ends-lines : (g : GraphValue) (cert : Cert) → Ends (lines g cert)
ends-lines g cert = after line.Title _ refl (after (line.Command cert.ask) _ refl (ends-row g cert.body (row_of cert.ask cert.body) (row-is cert.ask (is_second cert.body))))

-- nothing follows an end where no end stands
pub no_end-at : (front more : List CertLine) → NoEnd (front ++ line.End ∷ more) → ⊥
no_end-at [] more none = true≢false none.0
no_end-at (x ∷ front) more none = no_end-at front more none.1

-- a list with one end, at its last place, goes on nowhere
nothing-behind : (front other ys : List CertLine) → NoEnd front → NoEnd other → front ++ line.End ∷ [] ≡ (other ++ line.End ∷ []) ++ ys → ys ≡ []
nothing-behind [] [] ys none none' e = sym cc
nothing-behind [] (x ∷ other) ys none none' e =
    let first : line.End ≡ x = cc in
    absurd (true≢false (ap is_end first ∙ none'.0))
nothing-behind (x ∷ front) [] ys none none' e =
    let first : x ≡ line.End = cc in
    absurd (true≢false (sym (ap is_end first) ∙ none.0))
nothing-behind (x ∷ front) (y ∷ other) ys none none' e =
    let rest : front ++ line.End ∷ [] ≡ (other ++ line.End ∷ []) ++ ys = cc in
    nothing-behind front other ys none.1 none'.1 rest

-- ---- lists of lines by their spelling

-- One list is the front of the other; where the second ends first, its spelling goes on with that of the next line.
pub data Compared (g : GraphValue) (zs xs : List CertLine) (rest : List (List ℕ)) : Type 0 where
  front : (ys : List CertLine) → xs ≡ zs ++ ys → Compared g zs xs rest
  longer : (y : CertLine) (ys : List CertLine) (more : List (List ℕ)) → zs ≡ xs ++ y ∷ ys → rest ≡ spelled g y ∷ more → Compared g zs xs rest

pub compare : (g : GraphValue) (zs xs : List CertLine) (w rest : List (List ℕ)) → IsGraph g → ValidAll g zs → ValidAll g xs → map (spelled g) zs ++ w ≡ map (spelled g) xs ++ rest → Compared g zs xs rest
compare g [] xs w rest is a b e = front xs refl
compare g (z ∷ zs) [] w rest is a b e = longer z zs (map (spelled g) zs ++ w) refl (sym e)
compare g (z ∷ zs) (x ∷ xs) w rest is a b e =
    let first : spelled g z ≡ spelled g x = cc in
    let more : map (spelled g) zs ++ w ≡ map (spelled g) xs ++ rest = cc in
    let same : z ≡ x = spelled-same g z x is a.0 b.0 first in
    elim (compare g zs xs w rest is a.1 b.1 more) [
      | front ys p ↦ front ys (λ i. sym same i ∷ p i)
      | longer y ys others p q ↦ longer y ys others (λ i. same i ∷ p i) q
    ]

no_feeds : (g : GraphValue) (xs : List CertLine) → IsGraph g → ValidAll g xs → NoFeeds (map (spelled g) xs)
no_feeds g [] is valid = tt
no_feeds g (x ∷ xs) is valid = (spelled-no_feed g x is valid.0, no_feeds g xs is valid.1)

pub whole-text : (g : GraphValue) (xs : List CertLine) (rest : List ℕ) → IsGraph g → ValidAll g xs → whole_lines (unlines (map (spelled g) xs) ++ rest) ≡ map (spelled g) xs ++ whole_lines rest
whole-text g xs rest is valid = whole-unlines (map (spelled g) xs) rest (no_feeds g xs is valid)

lines-front : (g : GraphValue) (a b : Cert) (ys : List CertLine) → lines g b ≡ lines g a ++ ys → ys ≡ []
lines-front g a b ys e =
    let p = ends-lines g a in
    let q = ends-lines g b in
    nothing-behind q.front p.front ys q.none p.none (sym q.is ∙ e ∙ ap (λ l. l ++ ys) p.is)

cons-nil : (y : CertLine) (ys : List CertLine) → y ∷ ys ≡ [] → ⊥
cons-nil y ys e = cc

-- At the front of a text there is one certificate.
pub one-certificate : (g : GraphValue) (a b : Cert) (r s : List ℕ) → IsGraph g → IsShaped g a → IsShaped g b → text g a ++ r ≡ text g b ++ s → a ≡ b
one-certificate g a b r s is wa wb e =
    let va = valid-lines g a is wa in
    let vb = valid-lines g b is wb in
    let both = sym (whole-text g (lines g a) r is va) ∙ ap whole_lines e ∙ whole-text g (lines g b) s is vb in
    elim (compare g (lines g a) (lines g b) (whole_lines r) (whole_lines s) is va vb both) [
      | front ys p ↦ lines-same g a b is wa wb (sym (p ∙ ap (λ l. lines g a ++ l) (lines-front g a b ys p) ∙ append-nil (lines g a)))
      | longer y ys more p q ↦ absurd (cons-nil y ys (lines-front g b a (y ∷ ys) p))
    ]

pub no-prefix : (g : GraphValue) (a b : Cert) (more : List ℕ) → IsGraph g → IsShaped g a → IsShaped g b → text g b ≡ text g a ++ more → more ≡ []
no-prefix g a b more is wa wb e =
    let same = one-certificate g b a [] more is wb wa (append-nil (text g b) ∙ e) in
    append_cancel_left (text g a) more [] (sym e ∙ ap (text g) same ∙ sym (append-nil (text g a)))

pub found-back : (g : GraphValue) (cert found : Cert) (rest : List ℕ) (count : ℕ) → IsGraph g → IsShaped g cert → IsAtFront g (text g cert ++ rest) found count → (found ≡ cert) × (count ≡ length (text g cert))
found-back g cert found rest count is w f =
    let same = one-certificate g found cert f.rest rest is f.shaped w (sym f.is) in
    (same, f.count_is ∙ ap (λ x. length (text g x)) same)
