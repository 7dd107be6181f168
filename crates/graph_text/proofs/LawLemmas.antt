-- Bytes have one reading.
use Rattle.std.proofs.Common.{◌≡◌, ◌≢◌, ℕ, ◌+◌, ◌<◌, ◌≤◌, List, [], ◌∷◌, length, take, drop, get_or, map, refl, sym, ap, subst, ◌∙◌, inl, inr, None, All, arith}
use Rattle.std.specs.Prelude.{AllPairs}
use Rattle.std.specs.List.{concat}
use Rattle.std.proofs.lemmas.Bool.{cases_lt}
use Rattle.std.proofs.lemmas.List.{length-map, length-take-le, take_at, take-append-le}
use Rattle.std.proofs.lemmas.List.Elements.{All-head, All-tail}
use Rattle.graph_core.specs.Graph.{GraphValue, Fits}
use Rattle.graph_core.specs.declared.graph.Line.{Line}
use Rattle.graph_text.specs.declared.refusal.Why.{Why}
use Rattle.graph_text.specs.Lines.{lines}
use Rattle.graph_text.specs.Said.{Said, Skipped, line_says}
use Rattle.graph_text.specs.Before.{Content, content_of}
use Rattle.graph_text.specs.Text.{sayings, cause_at, ends_in, StandsFor, EndsAt, IsFaultAt, IsFirstFault}
use Rattle.graph_text.specs.Reading.{ReadsText, IsFault, IsTextAlone, IsLaterLine, IsFaultAlone, IsFirstSaid}
use Rattle.graph_text.proofs.CutLemmas.{lines-cut, sayings-cut, concat-lines}
use Rattle.graph_text.proofs.TextLemmas.{EndsAt-more}

-- ---- one graph

-- a name has one place
pub one_place : (names : List (List ℕ)) (i j : ℕ) → AllPairs (λ a b. a ≢ b) names → i < length names → j < length names → get_or names i [] ≡ get_or names j [] → i ≡ j
one_place names i j distinct within within' same =
    elim (cases_lt i j) [
      | inl l ↦ absurd (distinct i j [] l within' same)
      | inr k ↦ elim (cases_lt j i) [ inl l ↦ absurd (distinct j i [] l within (sym same)) | inr m ↦ omega (arith, k, m) ]
    ]

one_line : (names : List (List ℕ)) (l m : Line) → AllPairs (λ a b. a ≢ b) names → Fits (length names) l → Fits (length names) m → ends_in names l ≡ ends_in names m → l ≡ m
one_line names l m distinct fits fits' same =
    let tail = one_place names l.tail m.tail distinct fits.tail fits'.tail (ap (λ e. e.tail) same) in
    let head = one_place names l.head m.head distinct fits.head fits'.head (ap (λ e. e.head) same) in
    λ i. record { tail = tail i; head = head i; fixed = (same i).fixed; cost = (same i).cost }

one_list : (names : List (List ℕ)) (ls ms : List Line) → AllPairs (λ a b. a ≢ b) names → All (Fits (length names)) ls → All (Fits (length names)) ms → map (ends_in names) ls ≡ map (ends_in names) ms → ls ≡ ms
one_list names [] [] distinct fits fits' same = refl
one_list names [] (m ∷ ms) distinct fits fits' same = cc
one_list names (l ∷ ls) [] distinct fits fits' same = cc
one_list names (l ∷ ls) (m ∷ ms) distinct fits fits' same =
    let first : ends_in names l ≡ ends_in names m = cc in
    let more : map (ends_in names) ls ≡ map (ends_in names) ms = cc in
    let line = one_line names l m distinct (All-head (Fits (length names)) l ls fits) (All-head (Fits (length names)) m ms fits') first in
    let rest = one_list names ls ms distinct (All-tail (Fits (length names)) l ls fits) (All-tail (Fits (length names)) m ms fits') more in
    λ i. line i ∷ rest i

-- a content stands for one graph
one_graph : (content : Content) (g h : GraphValue) → StandsFor content g → StandsFor content h → g ≡ h
one_graph content g h a b =
    let kind : g.kind ≡ h.kind = let e = sym a.kind ∙ b.kind in cc in
    let names : g.names ≡ h.names = sym a.names ∙ b.names in
    let fits : All (Fits (length g.names)) h.lines = subst (λ ns. All (Fits (length ns)) h.lines) (sym names) b.graph.makes.ends in
    let ends : map (ends_in g.names) g.lines ≡ map (ends_in g.names) h.lines = sym a.ends ∙ b.ends ∙ ap (λ ns. map (ends_in ns) h.lines) (sym names) in
    let lines = one_list g.names g.lines h.lines a.graph.makes.distinct a.graph.makes.ends fits ends in
    let numbers : g.numbers ≡ h.numbers = sym a.numbers ∙ b.numbers in
    λ i. record { kind = kind i; names = names i; lines = lines i; numbers = numbers i }

-- ---- one end or one fault

one_end : (all : List Said) (m n : ℕ) → EndsAt all m → EndsAt all n → m ≡ n
one_end all m n first second =
    elim (cases_lt m n) [
      | inl l ↦ absurd ((second.before m l).unended first.ended)
      | inr k ↦ elim (cases_lt n m) [ inl l ↦ absurd ((first.before n l).unended second.ended) | inr e ↦ omega (arith, k, e) ]
    ]

no_fault : (all : List Said) (at : ℕ) (why : Why) → at < length all → cause_at all at ≡ None → IsFaultAt all at why → ⊥
no_fault all at why within none (inl (inside, fault)) = cc
no_fault all at why within none (inr (outside, missed)) = absurd (omega (arith, within, outside))

fault_within : (all : List Said) (at : ℕ) (why : Why) → IsFaultAt all at why → at ≤ length all
fault_within all at why (inl (inside, fault)) = omega (arith, inside)
fault_within all at why (inr (outside, missed)) = omega (arith, outside)

end_or_fault : (all : List Said) (m n : ℕ) (why : Why) → EndsAt all m → IsFirstFault all n why → ⊥
end_or_fault all m n why ends fault =
    let many = ends.within in
    elim (cases_lt n m) [
      | inl l ↦ no_fault all n why (omega (arith, l, many)) (ends.before n l).sound fault.here
      | inr k ↦ elim (cases_lt m n) [
        | inl l ↦ (fault.before m l).unended ends.ended
        | inr e ↦
            let same : m ≡ n = omega (arith, k, e) in
            no_fault all n why (omega (arith, same, many)) (subst (λ x. cause_at all x ≡ None) same ends.sound) fault.here
      ]
    ]

not_before : (all : List Said) (m n : ℕ) (why other : Why) → IsFirstFault all m why → IsFirstFault all n other → m < n → ⊥
not_before all m n why other first second l = no_fault all m why (omega (arith, l, fault_within all n other second.here)) (second.before m l).sound first.here

same_fault : (all : List Said) (at : ℕ) (why other : Why) → IsFaultAt all at why → IsFaultAt all at other → why ≡ other
same_fault all at why other (inl (i, first)) (inl (j, second)) = cc
same_fault all at why other (inl (i, first)) (inr (j, second)) = absurd (omega (arith, i, j))
same_fault all at why other (inr (i, first)) (inl (j, second)) = absurd (omega (arith, i, j))
same_fault all at why other (inr (i, first)) (inr (j, second)) = first ∙ sym second

one_first : (all : List Said) (m n : ℕ) (why other : Why) → IsFirstFault all m why → IsFirstFault all n other → (m ≡ n) × (why ≡ other)
one_first all m n why other first second =
    elim (cases_lt m n) [
      | inl l ↦ absurd (not_before all m n why other first second l)
      | inr k ↦ elim (cases_lt n m) [
        | inl l ↦ absurd (not_before all n m other why second first l)
        | inr e ↦
            let same : m ≡ n = omega (arith, k, e) in
            (same, same_fault all n why other (subst (λ x. IsFaultAt all x why) same first.here) second.here)
      ]
    ]

-- ---- over bytes

-- where a text ends among the lines of the bytes
record Found (bytes : List ℕ) (g : GraphValue) (count : ℕ) : Type 0 where
  pub last : ℕ
  pub ends : EndsAt (sayings bytes) last
  pub says : StandsFor (content_of (take last (sayings bytes))) g
  pub count_is : count ≡ length (concat (take (last + 1) (lines bytes)))

found : (bytes : List ℕ) (g : GraphValue) (count : ℕ) → ReadsText bytes g count → Found bytes g count
found bytes g count reads =
    let (last, text, last_is) = reads.text in
    let front = take count bytes in
    let back = sayings (drop count bytes) in
    let cut = sayings-cut count bytes reads.whole in
    let last_line : last + 1 ≡ length (lines front) = omega (arith, last_is, length-map (lines front) line_says) in
    let many : last ≤ length (sayings front) = omega (arith, last_is) in
    let before : take last (sayings bytes) ≡ take last (sayings front) = ap (take last) cut ∙ take-append-le last (sayings front) back many in
    let whole : take (last + 1) (lines bytes) ≡ lines front = ap (take (last + 1)) (lines-cut count bytes reads.whole) ∙ take_at (lines front) (lines (drop count bytes)) (last + 1) (sym last_line) in
    record {
      last = last;
      ends = subst (λ all. EndsAt all last) (sym cut) (EndsAt-more (sayings front) back last text.ends);
      says = subst (λ all. StandsFor (content_of all) g) (sym before) text.says;
      count_is = sym (length-take-le count bytes reads.within) ∙ ap length (sym (concat-lines front)) ∙ ap (λ l. length (concat l)) (sym whole);
    }

pub one_text : (bytes : List ℕ) (g h : GraphValue) (c d : ℕ) → ReadsText bytes g c → ReadsText bytes h d → (g ≡ h) × (c ≡ d)
one_text bytes g h c d first second =
    let a = found bytes g c first in
    let b = found bytes h d second in
    let same : a.last ≡ b.last = one_end (sayings bytes) a.last b.last a.ends b.ends in
    let says : StandsFor (content_of (take b.last (sayings bytes))) g = subst (λ n. StandsFor (content_of (take n (sayings bytes))) g) same a.says in (
      one_graph (content_of (take b.last (sayings bytes))) g h says b.says,
      a.count_is ∙ ap (λ n. length (concat (take (n + 1) (lines bytes)))) same ∙ sym b.count_is,
    )

pub one_fault : (bytes : List ℕ) (i j : ℕ) (why other : Why) → IsFault bytes i why → IsFault bytes j other → (i ≡ j) × (why ≡ other)
one_fault bytes i j why other (m, im, first) (n, jn, second) =
    let (same, cause) = one_first (sayings bytes) m n why other first second in
    (im ∙ ap (λ k. k + 1) same ∙ sym jn, cause)

pub not_both : (bytes : List ℕ) (g : GraphValue) (c i : ℕ) (why : Why) → ReadsText bytes g c → IsFault bytes i why → ⊥
not_both bytes g c i why reads (n, is, fault) = let a = found bytes g c reads in end_or_fault (sayings bytes) a.last n why a.ends fault

-- ---- with what follows the text

pub one_text_alone : (bytes : List ℕ) (g h : GraphValue) → IsTextAlone bytes g → IsTextAlone bytes h → g ≡ h
one_text_alone bytes g h first second = (one_text bytes g h first.count second.count first.reads second.reads).0

one_said : (all : List Said) (i j : ℕ) → IsFirstSaid all i → IsFirstSaid all j → i ≡ j
one_said all i j first second =
    elim (cases_lt i j) [
      | inl l ↦ absurd (first.here (second.before i l))
      | inr k ↦ elim (cases_lt j i) [ inl l ↦ absurd (second.here (first.before j l)) | inr e ↦ omega (arith, k, e) ]
    ]

one_later : (bytes : List ℕ) (i j : ℕ) → IsLaterLine bytes i → IsLaterLine bytes j → i ≡ j
one_later bytes i j first second =
    let count : first.count ≡ second.count = (one_text bytes first.graph second.graph first.count second.count first.reads second.reads).1 in
    let at : first.at ≡ second.at = one_said (sayings (drop second.count bytes)) first.at second.at (subst (λ n. IsFirstSaid (sayings (drop n bytes)) first.at) count first.first) second.first in
    first.place ∙ (λ k. length (lines (take (count k) bytes)) + at k + 1) ∙ sym second.place

pub one_fault_alone : (bytes : List ℕ) (i j : ℕ) (why other : Why) → IsFaultAlone bytes i why → IsFaultAlone bytes j other → (i ≡ j) × (why ≡ other)
one_fault_alone bytes i j why other (inl first) (inl second) = one_fault bytes i j why other first second
one_fault_alone bytes i j why other (inl first) (inr (is, second)) = absurd (not_both bytes second.graph second.count i why second.reads first)
one_fault_alone bytes i j why other (inr (is, first)) (inl second) = absurd (not_both bytes first.graph first.count j other first.reads second)
one_fault_alone bytes i j why other (inr (is, first)) (inr (is', second)) = (one_later bytes i j first second, is ∙ sym is')

pub not_both_alone : (bytes : List ℕ) (g : GraphValue) (i : ℕ) (why : Why) → IsTextAlone bytes g → IsFaultAlone bytes i why → ⊥
not_both_alone bytes g i why text (inl fault) = not_both bytes g text.count i why text.reads fault
not_both_alone bytes g i why text (inr (is, later)) =
    let count : later.count ≡ text.count = (one_text bytes later.graph g later.count text.count later.reads text.reads).1 in
    let first : IsFirstSaid (sayings (drop text.count bytes)) later.at = subst (λ n. IsFirstSaid (sayings (drop n bytes)) later.at) count later.first in
    first.here (text.rest later.at Skipped first.within)
