-- Two lines that may stand in a certificate of one graph and are spelled alike are one.
use Rattle.std.proofs.Common.{◌≡◌, ◌≢◌, ℕ, suc, ◌+◌, ◌<◌, ◌≤◌, ◌==◌, ◌&&◌, Bool, true, false, List, [], ◌∷◌, length, get_or, refl, sym, ap, ◌∙◌, inl, inr, All, None, true≢false, eq-eqb, arith}
use Rattle.std.specs.Prelude.{AllPairs}
use Rattle.std.specs.List.{list_all, slice_split, join_with_byte}
use Rattle.std.specs.Fmt.{decimal}
use Rattle.std.proofs.lemmas.Fmt.{decimal_injective}
use Rattle.std.proofs.lemmas.Bool.{cases_lt}
use Rattle.std.proofs.lemmas.List.Elements.{All-head, All-tail}
use Rattle.graph_core.specs.Graph.{GraphValue, IsGraph}
use Rattle.graph_core.specs.Name.{IsName}
use Rattle.problem_defs.specs.Ask.{misfit_of, KIsInRange}
use Rattle.problem_defs.specs.Arborescences.Cert.{arborescences_suits}
use Rattle.problem_defs.specs.Flow.Cert.{flow_suits}
use Rattle.problem_defs.specs.declared.ask.Ask.{Ask}
use Rattle.problem_defs.specs.declared.ask.Ask.TheVariants as ask
use Rattle.certificate_text.specs.declared.line.CertLine.{CertLine}
use Rattle.certificate_text.specs.declared.line.CertLine.TheVariants as line
use Rattle.certificate_text.specs.declared.line.DualKind.{DualKind}
use Rattle.certificate_text.specs.declared.line.DualKind.TheVariants as kind
use Rattle.certificate_text.specs.Keywords.{NamesNodes}
use Rattle.certificate_text.specs.Words.{words, spelled, names_in, name_of, numbers, dual_word, ask_words}
use Rattle.certificate_text.specs.Valid.{IsValid}
use Rattle.certificate_text.proofs.WordLaws.{ArePlain, is_ink, split-join, join-no_feed, no_feed, decimal-ink, name-ink}

-- ---- words that differ

abbrev pub eq_bytes : List ℕ → List ℕ → Bool
eq_bytes [] [] = true
eq_bytes [] (y ∷ ys) = false
eq_bytes (x ∷ xs) [] = false
eq_bytes (x ∷ xs) (y ∷ ys) = (x == y) && eq_bytes xs ys

eq_bytes-same : (xs : List ℕ) → eq_bytes xs xs ≡ true
eq_bytes-same [] = refl
eq_bytes-same (x ∷ xs) = λ i. eq-eqb x x refl i && eq_bytes-same xs i

pub clash : (xs ys : List ℕ) → eq_bytes xs ys ≡ false → xs ≡ ys → ⊥
clash xs ys differ same = true≢false (sym (eq_bytes-same xs) ∙ ap (eq_bytes xs) same ∙ differ)

abbrev pub head_word : List (List ℕ) → List ℕ
head_word [] = []
head_word (w ∷ ws) = w

-- ---- what suits has its nodes

flow-nodes : (g : GraphValue) (s t : ℕ) → misfit_of g (ask.Flow s t) ≡ None → (s < length g.names) × (t < length g.names)
flow-nodes g s t e = let suits = flow_suits g s t e in (suits.from, suits.to)

root-node : (g : GraphValue) (r : ℕ) → misfit_of g (ask.Arborescences r) ≡ None → r < length g.names
root-node g r e = (arborescences_suits g r e).root

-- ---- names

name-same : (g : GraphValue) (u v : ℕ) → IsGraph g → u < length g.names → v < length g.names → name_of g u ≡ name_of g v → u ≡ v
name-same g u v is a b e =
    elim (cases_lt u v) [
      | inl l ↦ absurd (is.makes.distinct u v [] l b e)
      | inr m ↦ elim (cases_lt v u) [ inl l ↦ absurd (is.makes.distinct v u [] l a (sym e)) | inr k ↦ omega arith ]
    ]

pub first-in : (names : List (List ℕ)) (X : List Bool) (name : List ℕ) (more : List (List ℕ)) → names_in names X ≡ name ∷ more → (j : ℕ) × (j < length names) × (get_or names j [] ≡ name)
first-in [] X name more e = cc
first-in (n ∷ names) [] name more e = cc
first-in (n ∷ names) (true ∷ X) name more e = (0, omega arith, cc)
first-in (n ∷ names) (false ∷ X) name more e = let (j, l, same) = first-in names X name more e in (suc j, omega (arith, l), same)

apart-tail : (n : List ℕ) (names : List (List ℕ)) → AllPairs (λ a b. a ≢ b) (n ∷ names) → AllPairs (λ a b. a ≢ b) names
apart-tail n names apart = λ i j d l m. apart (suc i) (suc j) d (omega (arith, l)) (omega (arith, m))

not-first : (n : List ℕ) (names : List (List ℕ)) (X : List Bool) (more : List (List ℕ)) → AllPairs (λ a b. a ≢ b) (n ∷ names) → names_in names X ≡ n ∷ more → ⊥
not-first n names X more apart e =
    let (j, l, same) = first-in names X n more e in
    apart 0 (suc j) [] (omega arith) (omega (arith, l)) (sym same)

sides-same : (names : List (List ℕ)) (X Y : List Bool) → AllPairs (λ a b. a ≢ b) names → length X ≡ length names → length Y ≡ length names → names_in names X ≡ names_in names Y → X ≡ Y
sides-same [] [] [] apart a b e = refl
sides-same [] [] (y ∷ Y) apart a b e = absurd (omega (arith, b))
sides-same [] (x ∷ X) Y apart a b e = absurd (omega (arith, a))
sides-same (n ∷ names) [] Y apart a b e = absurd (omega (arith, a))
sides-same (n ∷ names) (x ∷ X) [] apart a b e = absurd (omega (arith, b))
sides-same (n ∷ names) (true ∷ X) (true ∷ Y) apart a b e =
    let rest : names_in names X ≡ names_in names Y = cc in
    let p : length X ≡ length names = omega (arith, a) in
    let q : length Y ≡ length names = omega (arith, b) in
    ap (λ l. true ∷ l) (sides-same names X Y (apart-tail n names apart) p q rest)
sides-same (n ∷ names) (true ∷ X) (false ∷ Y) apart a b e = absurd (not-first n names Y (names_in names X) apart (sym e))
sides-same (n ∷ names) (false ∷ X) (true ∷ Y) apart a b e = absurd (not-first n names X (names_in names Y) apart e)
sides-same (n ∷ names) (false ∷ X) (false ∷ Y) apart a b e =
    let p : length X ≡ length names = omega (arith, a) in
    let q : length Y ≡ length names = omega (arith, b) in
    ap (λ l. false ∷ l) (sides-same names X Y (apart-tail n names apart) p q e)

-- ---- numbers

numbers-same : (m : ℕ) (is js : List ℕ) → m ≤ 65536 → All (λ j. j < m) is → All (λ j. j < m) js → numbers is ≡ numbers js → is ≡ js
numbers-same m [] [] few a b e = refl
numbers-same m [] (j ∷ js) few a b e = cc
numbers-same m (i ∷ is) [] few a b e = cc
numbers-same m (i ∷ is) (j ∷ js) few a b e =
    let first : decimal (i + 1) ≡ decimal (j + 1) = cc in
    let rest : numbers is ≡ numbers js = cc in
    let il : i < m = All-head (λ j. j < m) i is a in
    let jl : j < m = All-head (λ j. j < m) j js b in
    let same : i + 1 ≡ j + 1 = decimal_injective (i + 1) (j + 1) (omega (arith, il, few)) (omega (arith, jl, few)) first in
    let same' : i ≡ j = omega (arith, same) in
    let more = numbers-same m is js few (All-tail (λ j. j < m) i is a) (All-tail (λ j. j < m) j js b) rest in
    λ p. same' p ∷ more p

k-same : (k l : ℕ) → k ≤ 32 → l ≤ 32 → decimal k ≡ decimal l → k ≡ l
k-same k l a b e = decimal_injective k l (omega (arith, a)) (omega (arith, b)) e

second : (a b c d : List ℕ) (more others : List (List ℕ)) → a ∷ b ∷ more ≡ c ∷ d ∷ others → b ≡ d
second a b c d more others e = cc

third : (a b c x y z : List ℕ) (more others : List (List ℕ)) → a ∷ b ∷ c ∷ more ≡ x ∷ y ∷ z ∷ others → c ≡ z
third a b c x y z more others e = cc

fourth : (a b c d w x y z : List ℕ) → a ∷ b ∷ c ∷ d ∷ [] ≡ w ∷ x ∷ y ∷ z ∷ [] → d ≡ z
fourth a b c d w x y z e = cc

pub behind : (a c : List ℕ) (more others : List (List ℕ)) → a ∷ more ≡ c ∷ others → more ≡ others
behind a c more others e = cc

pub names-nodes : (g : GraphValue) (x : Ask) → misfit_of g x ≡ None → NamesNodes (length g.names) x
names-nodes g (ask.Flow s t) m = flow-nodes g s t m
names-nodes g (ask.Arborescences r) m = root-node g r m
names-nodes g x m = tt

pub ask-same : (g : GraphValue) (x y : Ask) → IsGraph g → KIsInRange x → NamesNodes (length g.names) x → KIsInRange y → NamesNodes (length g.names) y → ask_words g x ≡ ask_words g y → x ≡ y
ask-same g (ask.Flow s t) (ask.Flow u v) is k m l n e =
    let p = name-same g s u is m.0 n.0 (second _ _ _ _ _ _ e) in
    let q = name-same g t v is m.1 n.1 (third _ _ _ _ _ _ _ _ e) in
    λ i. ask.Flow (p i) (q i)
ask-same g ask.CutTree ask.CutTree is k m l n e = refl
ask-same g (ask.Augment j) (ask.Augment i) is k m l n e = ap ask.Augment (k-same j i k.1 l.1 (second _ _ _ _ _ _ e))
ask-same g (ask.AugmentArcs j) (ask.AugmentArcs i) is k m l n e = ap ask.AugmentArcs (k-same j i k.1 l.1 (second _ _ _ _ _ _ e))
ask-same g (ask.Arborescences r) (ask.Arborescences s) is k m l n e = ap ask.Arborescences (name-same g r s is m n (second _ _ _ _ _ _ e))
ask-same g ask.Trees ask.Trees is k m l n e = refl
ask-same g ask.Forests ask.Forests is k m l n e = refl
ask-same g (ask.Orient j) (ask.Orient i) is k m l n e = ap ask.Orient (k-same j i k.1 l.1 (second _ _ _ _ _ _ e))
ask-same g ask.Dijoin ask.Dijoin is k m l n e = refl
ask-same g x y is k m l n e = absurd (clash (head_word (ask_words g x)) (head_word (ask_words g y)) refl (ap head_word e))

dual-word-same : (a b : DualKind) → dual_word a ≡ dual_word b → a ≡ b
dual-word-same kind.Cut kind.Cut e = refl
dual-word-same kind.Components kind.Components e = refl
dual-word-same kind.Subpartition kind.Subpartition e = refl
dual-word-same kind.In kind.In e = refl
dual-word-same kind.Out kind.Out e = refl
dual-word-same kind.Partition kind.Partition e = refl
dual-word-same kind.Induced kind.Induced e = refl
dual-word-same kind.Nothing kind.Nothing e = refl
dual-word-same kind.Dicuts kind.Dicuts e = refl
dual-word-same kind.Dicut kind.Dicut e = refl
dual-word-same a b e = absurd (clash (dual_word a) (dual_word b) refl e)

pub words-same : (g : GraphValue) (x y : CertLine) → IsGraph g → IsValid g x → IsValid g y → words g x ≡ words g y → x ≡ y
words-same g line.Title line.Title is a b e = refl
words-same g (line.Command x) (line.Command y) is a b e = ap line.Command (ask-same g x y is a.0 (names-nodes g x a.1) b.0 (names-nodes g y b.1) (behind _ _ _ _ e))
words-same g (line.Value m) (line.Value n) is a b e = ap line.Value (decimal_injective m n a b (second _ _ _ _ _ _ e))
words-same g line.Impossible line.Impossible is a b e = refl
words-same g (line.Path x) (line.Path y) is a b e = ap line.Path (numbers-same _ x y is.makes.few a b (behind _ _ _ _ e))
words-same g (line.Part x) (line.Part y) is a b e = ap line.Part (numbers-same _ x y is.makes.few a b (behind _ _ _ _ e))
words-same g (line.Join x) (line.Join y) is a b e = ap line.Join (numbers-same _ x y is.makes.few a b (behind _ _ _ _ e))
words-same g (line.Tree u v n) (line.Tree x y m) is a b e =
    let p = name-same g u x is a.0 b.0 (second _ _ _ _ _ _ e) in
    let q = name-same g v y is a.1 b.1 (third _ _ _ _ _ _ _ _ e) in
    let r = decimal_injective n m a.2 b.2 (fourth _ _ _ _ _ _ _ _ e) in
    λ i. line.Tree (p i) (q i) (r i)
words-same g (line.Edge u v) (line.Edge x y) is a b e =
    let p = name-same g u x is a.0 b.0 (second _ _ _ _ _ _ e) in
    let q = name-same g v y is a.1 b.1 (third _ _ _ _ _ _ _ _ e) in
    λ i. line.Edge (p i) (q i)
words-same g (line.Arc u v) (line.Arc x y) is a b e =
    let p = name-same g u x is a.0 b.0 (second _ _ _ _ _ _ e) in
    let q = name-same g v y is a.1 b.1 (third _ _ _ _ _ _ _ _ e) in
    λ i. line.Arc (p i) (q i)
words-same g (line.Dual x) (line.Dual y) is a b e = ap line.Dual (dual-word-same x y (second _ _ _ _ _ _ e))
words-same g (line.Set X) (line.Set Y) is a b e = ap line.Set (sides-same g.names X Y is.makes.distinct a b (behind _ _ _ _ e))
words-same g line.End line.End is a b e = refl
words-same g x y is a b e = absurd (clash (head_word (words g x)) (head_word (words g y)) refl (ap head_word e))

-- ---- the words are plain

name-plain : (g : GraphValue) (v : ℕ) → All IsName g.names → v < length g.names → list_all is_ink (name_of g v) ≡ true
name-plain g v named l = name-ink (name_of g v) (named v [] l)

numbers-plain : (m : ℕ) (js : List ℕ) → m ≤ 65536 → All (λ j. j < m) js → ArePlain (numbers js)
numbers-plain m [] few a = tt
numbers-plain m (j ∷ js) few a =
    let l : j < m = All-head (λ j. j < m) j js a in
    (decimal-ink (j + 1) (omega (arith, l, few)), numbers-plain m js few (All-tail (λ j. j < m) j js a))

names-plain : (names : List (List ℕ)) (X : List Bool) → All IsName names → ArePlain (names_in names X)
names-plain [] X named = tt
names-plain (n ∷ names) [] named = tt
names-plain (n ∷ names) (true ∷ X) named = (name-ink n (All-head IsName n names named), names-plain names X (All-tail IsName n names named))
names-plain (n ∷ names) (false ∷ X) named = names-plain names X (All-tail IsName n names named)

k-plain : (k : ℕ) → k ≤ 32 → list_all is_ink (decimal k) ≡ true
k-plain k a = decimal-ink k (omega (arith, a))

ask-plain : (g : GraphValue) (x : Ask) → All IsName g.names → KIsInRange x → misfit_of g x ≡ None → ArePlain (ask_words g x)
ask-plain g (ask.Flow s t) named k m = let a = flow-nodes g s t m in (refl, (name-plain g s named a.0, (name-plain g t named a.1, tt)))
ask-plain g (ask.Arborescences r) named k m = (refl, (name-plain g r named (root-node g r m), tt))
ask-plain g (ask.Augment j) named k m = (refl, (k-plain j k.1, tt))
ask-plain g (ask.AugmentArcs j) named k m = (refl, (k-plain j k.1, tt))
ask-plain g (ask.Orient j) named k m = (refl, (k-plain j k.1, tt))
ask-plain g x named k m = (refl, tt)

kind-plain : (a : DualKind) → list_all is_ink (dual_word a) ≡ true
kind-plain kind.Cut = refl
kind-plain k = refl

pub words-plain : (g : GraphValue) (x : CertLine) → IsGraph g → IsValid g x → ArePlain (words g x)
words-plain g line.Title is a = (refl, (refl, tt))
words-plain g (line.Command x) is a = (refl, ask-plain g x is.named a.0 a.1)
words-plain g (line.Value n) is a = (refl, (decimal-ink n a, tt))
words-plain g line.Impossible is a = (refl, tt)
words-plain g (line.Path js) is a = (refl, numbers-plain _ js is.makes.few a)
words-plain g (line.Part js) is a = (refl, numbers-plain _ js is.makes.few a)
words-plain g (line.Join js) is a = (refl, numbers-plain _ js is.makes.few a)
words-plain g (line.Tree u v n) is a = (refl, (name-plain g u is.named a.0, (name-plain g v is.named a.1, (decimal-ink n a.2, tt))))
words-plain g (line.Edge u v) is a = (refl, (name-plain g u is.named a.0, (name-plain g v is.named a.1, tt)))
words-plain g (line.Arc u v) is a = (refl, (name-plain g u is.named a.0, (name-plain g v is.named a.1, tt)))
words-plain g (line.Dual k) is a = (refl, (kind-plain k, tt))
words-plain g (line.Set X) is a = (refl, names-plain g.names X is.named)
words-plain g line.End is a = (refl, tt)

split-all : (ws : List (List ℕ)) → 0 < length ws → ArePlain ws → slice_split (λ b. b == 32) (join_with_byte 32 ws) ≡ ws
split-all [] some plain = absurd (omega (arith, some))
split-all (w ∷ ws) some plain = split-join w ws plain.0 plain.1

pub some-word : (g : GraphValue) (x : CertLine) → 0 < length (words g x)
some-word g line.Title = omega arith
some-word g (line.Command x) = omega arith
some-word g (line.Value n) = omega arith
some-word g line.Impossible = omega arith
some-word g (line.Path js) = omega arith
some-word g (line.Part js) = omega arith
some-word g (line.Join js) = omega arith
some-word g (line.Tree u v n) = omega arith
some-word g (line.Edge u v) = omega arith
some-word g (line.Arc u v) = omega arith
some-word g (line.Dual k) = omega arith
some-word g (line.Set X) = omega arith
some-word g line.End = omega arith

pub split-spelled : (g : GraphValue) (x : CertLine) → IsGraph g → IsValid g x → slice_split (λ b. b == 32) (spelled g x) ≡ words g x
split-spelled g x is a = split-all (words g x) (some-word g x) (words-plain g x is a)

-- a line is spelled as no other
pub spelled-same : (g : GraphValue) (x y : CertLine) → IsGraph g → IsValid g x → IsValid g y → spelled g x ≡ spelled g y → x ≡ y
spelled-same g x y is a b e =
    words-same g x y is a b (sym (split-spelled g x is a) ∙ ap (slice_split (λ b. b == 32)) e ∙ split-spelled g y is b)

pub spelled-no_feed : (g : GraphValue) (x : CertLine) → IsGraph g → IsValid g x → no_feed (spelled g x) ≡ true
spelled-no_feed g x is a = join-no_feed (words g x) (words-plain g x is a)
