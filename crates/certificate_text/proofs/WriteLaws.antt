-- What was written, line by line.
use Rattle.std.proofs.Common.{◌≡◌, ℕ, zero, suc, ◌+◌, ◌<◌, ◌≤◌, Bool, true, false, cond, List, [], ◌∷◌, ◌++◌, map, length, take, get_or, refl, sym, ap, subst, ◌∙◌, append_assoc, append-nil, add-one, Some, All, arith}
use Rattle.std.specs.Prelude.{slice_get, codes}
use Rattle.std.specs.List.{flat_map, join_with_byte}
use Rattle.std.proofs.lemmas.List.{take_all, take_more, map-append, flat_map_more}
use Rattle.std.proofs.lemmas.List.Folds.{flat_map-map}
use Rattle.std.proofs.lemmas.Option.{get_or_from_slice_get, slice_get_within}
use Rattle.std.proofs.lemmas.Grind.{flat_map-append}
use Rattle.graph_core.specs.Graph.{GraphValue}
use Rattle.graph_core.specs.declared.graph.Line.{Line}
use Rattle.certificate_text.specs.declared.line.CertLine.{CertLine}
use Rattle.certificate_text.specs.Words.{spelled, names_in, name_of, member_name}
use Rattle.certificate_text.specs.Lines.{turned_line, turned_lines}
use Rattle.certificate_text.specs.Text.{line_text, spelling}
use Rattle.certificate_text.proofs.CodeLaws.{join-more}

-- what holds of each item holds of the one that was taken
pub item-holds : {X : Type 0} (P : X → Type 0) (all : List X) (at : ℕ) (x : X) → All P all → slice_get all at ≡ Some x → P x
item-holds P all at x each here = subst P (get_or_from_slice_get all at x x here) (each at x (slice_get_within all at x here))

-- one more item of a list was written
pub item-more : {X Y : Type 0} (f : X → List Y) (all : List X) (at : ℕ) (x : X) (old now new : List Y) → slice_get all at ≡ Some x → now ≡ old ++ flat_map f (take at all) → new ≡ now ++ f x → new ≡ old ++ flat_map f (take (at + 1) all)
item-more f all at x old now new here before e =
    let more = take_more all at x (slice_get_within all at x here) ∙ ap (λ y. take at all ++ y ∷ []) (get_or_from_slice_get all at x x here) in
    e ∙ ap (λ t. t ++ f x) before ∙ flat_map_more f old (take at all) x ∙ ap (λ ys. old ++ flat_map f ys) (sym more)

-- every item of a list was written
pub items-all : {X Y : Type 0} (f : X → List Y) (all : List X) (at : ℕ) (old now : List Y) → length all ≤ at → now ≡ old ++ flat_map f (take at all) → now ≡ old ++ flat_map f all
items-all f all at old now past written = written ∙ ap (λ xs. old ++ flat_map f xs) (take_all at all past)

-- the LF behind a line
pub line-closed : (old line now new : List ℕ) → now ≡ old ++ line → new ≡ now ++ 10 ∷ [] → new ≡ old ++ (line ++ 10 ∷ [])
line-closed old line now new before e = e ∙ ap (λ t. t ++ 10 ∷ []) before ∙ append_assoc old line (10 ∷ [])

-- These lines were written behind the old text.
pub record Wrote (g : GraphValue) (old : List ℕ) (xs : List CertLine) (new : List ℕ) : Type 0 where
  pub is : new ≡ old ++ spelling g xs

pub wrote-line : (g : GraphValue) (old new : List ℕ) (x : CertLine) → new ≡ old ++ line_text g x → Wrote g old (x ∷ []) new
wrote-line g old new x e = record { is = e ∙ ap (λ t. old ++ t) (sym (append-nil (line_text g x))) }

pub wrote-map : (A : Type 0) (g : GraphValue) (old new : List ℕ) (c : A → CertLine) (xs : List A) → new ≡ old ++ flat_map (λ a. line_text g (c a)) xs → Wrote g old (map c xs) new
wrote-map A g old new c xs e =
    let whole = flat_map-map (λ l. l ++ 10 ∷ []) (spelled g) (map c xs) ∙ flat_map-map (λ x. spelled g x ++ 10 ∷ []) c xs in
    record { is = e ∙ ap (λ t. old ++ t) (sym whole) }

pub wrote-then : (g : GraphValue) (old mid new : List ℕ) (xs ys : List CertLine) → Wrote g old xs mid → Wrote g mid ys new → Wrote g old (xs ++ ys) new
wrote-then g old mid new xs ys a b =
    let whole = ap (flat_map (λ l. l ++ 10 ∷ [])) (map-append (spelled g) xs ys) ∙ flat_map-append (λ l. l ++ 10 ∷ []) (map (spelled g) xs) (map (spelled g) ys) in
    record { is = b.is ∙ ap (λ t. t ++ spelling g ys) a.is ∙ append_assoc old (spelling g xs) (spelling g ys) ∙ ap (λ t. old ++ t) (sym whole) }

pub turned-more : (ls : List Line) (heads : List Bool) (j : ℕ) (l : Line) (b : Bool) → slice_get ls j ≡ Some l → slice_get heads j ≡ Some b → turned_lines (take (suc j) ls) (take (suc j) heads) ≡ turned_lines (take j ls) (take j heads) ++ turned_line l b ∷ []
turned-more [] heads j l b p q = cc
turned-more (k ∷ ls) [] j l b p q = cc
turned-more (k ∷ ls) (h ∷ heads) zero l b p q = let here : k ≡ l = cc in let turn : h ≡ b = cc in λ i. turned_line (here i) (turn i) ∷ []
turned-more (k ∷ ls) (h ∷ heads) (suc j) l b p q = ap (λ x. turned_line k h ∷ x) (turned-more ls heads j l b p q)

pub names-more : (names : List (List ℕ)) (X : List Bool) (v : ℕ) → v < length names → v < length X → names_in (take (suc v) names) (take (suc v) X) ≡ names_in (take v names) (take v X) ++ cond (get_or X v false) (get_or names v [] ∷ []) []
names-more [] X v a b = absurd (omega (arith, a))
names-more (n ∷ names) [] v a b = absurd (omega (arith, b))
names-more (n ∷ names) (true ∷ X) zero a b = refl
names-more (n ∷ names) (false ∷ X) zero a b = refl
names-more (n ∷ names) (true ∷ X) (suc v) a b = ap (λ x. n ∷ x) (names-more names X v (omega (arith, a)) (omega (arith, b)))
names-more (n ∷ names) (false ∷ X) (suc v) a b = names-more names X v (omega (arith, a)) (omega (arith, b))

pub set-more : (g : GraphValue) (X : List Bool) (v : ℕ) (old now new : List ℕ) → v < length g.names → v < length X → now ≡ old ++ join_with_byte 32 (codes "set" ∷ names_in (take v g.names) (take v X)) → new ≡ now ++ member_name g X v
    → new ≡ old ++ join_with_byte 32 (codes "set" ∷ names_in (take (v + 1) g.names) (take (v + 1) X))
set-more g X v old now new a b before e = by (get_or X v false) refl e
  where
    grown : (m : Bool) → get_or X v false ≡ m → names_in (take (v + 1) g.names) (take (v + 1) X) ≡ names_in (take v g.names) (take v X) ++ cond m (name_of g v ∷ []) []
    grown m t = rw add-one (names-more g.names X v a b ∙ ap (λ n. names_in (take v g.names) (take v X) ++ cond n (name_of g v ∷ []) []) t)

    by : (m : Bool) → get_or X v false ≡ m → new ≡ now ++ cond m (32 ∷ name_of g v) [] → new ≡ old ++ join_with_byte 32 (codes "set" ∷ names_in (take (v + 1) g.names) (take (v + 1) X))
    by true t d =
        d ∙ ap (λ s. s ++ 32 ∷ name_of g v) before ∙ append_assoc old (join_with_byte 32 (codes "set" ∷ names_in (take v g.names) (take v X))) (32 ∷ name_of g v)
        ∙ ap (λ s. old ++ s) (sym (join-more (codes "set") (names_in (take v g.names) (take v X)) (name_of g v)) ∙ ap (λ ws. join_with_byte 32 (codes "set" ∷ ws)) (sym (grown true t)))
    by false t d =
        d ∙ append-nil now ∙ before ∙ ap (λ ws. old ++ join_with_byte 32 (codes "set" ∷ ws)) (sym (append-nil (names_in (take v g.names) (take v X))) ∙ sym (grown false t))

pub turned-wrote : (g : GraphValue) (heads : List Bool) (j : ℕ) (old now new : List ℕ) (l : Line) (b : Bool) → slice_get g.lines j ≡ Some l → slice_get heads j ≡ Some b → now ≡ old ++ spelling g (turned_lines (take j g.lines) (take j heads)) → new ≡ now ++ line_text g (turned_line l b)
    → new ≡ old ++ spelling g (turned_lines (take (j + 1) g.lines) (take (j + 1) heads))
turned-wrote g heads j old now new l b p q before e =
    let more : turned_lines (take (j + 1) g.lines) (take (j + 1) heads) ≡ turned_lines (take j g.lines) (take j heads) ++ turned_line l b ∷ [] = rw add-one (turned-more g.lines heads j l b p q) in
    (wrote-then g old now new (turned_lines (take j g.lines) (take j heads)) (turned_line l b ∷ []) (record { is = before }) (wrote-line g now new (turned_line l b) e)).is ∙ ap (λ xs. old ++ spelling g xs) (sym more)
