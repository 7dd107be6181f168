-- What the reader keeps from line to line.
use Rattle.std.proofs.Common.{◌≡◌, ℕ, ◌+◌, ◌<◌, ◌≤◌, List, [], ◌∷◌, ◌++◌, length, take, drop, map, refl, sym, ap, subst, ◌∙◌, inl, inr, Some, None, append_assoc, append-nil, length-append, length-drop, arith}
use Rattle.std.specs.Prelude.{slice_get}
use Rattle.std.proofs.lemmas.Bool.{cases_lt}
use Rattle.std.proofs.lemmas.List.{map-append, append_cancel_right, drop-drop, get_or-drop, take_at}
use Rattle.std.proofs.Math.Seq.{drop-append_seam}
use Rattle.std.proofs.lemmas.Option.{slice_get_within, slice_get-get_or, get_or_from_slice_get}
use Rattle.graph_text.specs.declared.refusal.Why.{Why}
use Rattle.graph_text.specs.Lines.{lines}
use Rattle.graph_text.specs.Said.{End, line_says}
use Rattle.graph_text.specs.Before.{Content, content_of}
use Rattle.graph_text.specs.Cause.{cause}
use Rattle.graph_text.specs.Text.{sayings, said_at, cause_at, GoesOn, missing}
use Rattle.graph_text.specs.Reading.{CutsNoLine, IsFault}
use Rattle.graph_text.specs.Taken.{grown, ReadsLines}
use Rattle.graph_text.proofs.CutLemmas.{lines-cut, lines-empty}
use Rattle.graph_text.proofs.TextLemmas.{GoesOn-more, goes_on, said_split, cause_split, content_of-push, CanTake-None}

-- The rest stands behind whole lines, so many, that have no fault and end no text.
pub record Reading (bytes rest : List ℕ) (line : ℕ) (content : Content) : Type 0 where
  pub count : ℕ
  pub place : count + length rest ≡ length bytes
  pub rest_is : drop count bytes ≡ rest
  pub cut : lines bytes ≡ lines (take count bytes) ++ lines rest
  pub line_is : line ≡ length (sayings (take count bytes))
  pub content_is : content ≡ content_of (sayings (take count bytes))
  pub before : (at : ℕ) → at < line → GoesOn (sayings (take count bytes)) at
  pub few : line + length rest ≤ length bytes

pub reading_first : (bytes : List ℕ) → Reading bytes bytes 0 (record { kind = None; names = []; numbers = []; ends = [] })
reading_first bytes = record {
  count = 0;
  place = omega arith;
  rest_is = refl;
  cut = refl;
  line_is = refl;
  content_is = refl;
  before = λ at none. absurd (omega (arith, none));
  few = omega arith;
}

-- The line that is read next.
pub record Next (bytes first after : List ℕ) (before count : ℕ) : Type 0 where
  pub place : count + length after ≡ length bytes
  pub whole : CutsNoLine count bytes
  pub after_is : drop count bytes ≡ after
  pub said : sayings (take count bytes) ≡ sayings (take before bytes) ++ line_says first ∷ []
  pub all : sayings bytes ≡ sayings (take before bytes) ++ line_says first ∷ sayings after

-- a cut of the rest is a cut of the bytes
cut_more : (bytes rest : List ℕ) (count more : ℕ) → drop count bytes ≡ rest → count + length rest ≡ length bytes → CutsNoLine more rest → CutsNoLine (count + more) bytes
cut_more bytes rest count more is place (inl all) = inl (omega (arith, place, all))
cut_more bytes rest count more is place (inr (before, last, here)) = inr (
  count + before,
  omega (arith, last),
  (let there : slice_get (drop count bytes) before ≡ Some 10 = ap (λ l. slice_get l before) is ∙ here in slice_get-drop bytes count before 10 there),
)
  where
    slice_get-drop : (xs : List ℕ) (n k x : ℕ) → slice_get (drop n xs) k ≡ Some x → slice_get xs (n + k) ≡ Some x
    slice_get-drop xs n k x here =
        let within : k < length (drop n xs) = slice_get_within (drop n xs) k x here in
        let inside : n + k < length xs = omega (arith, within, length-drop n xs) in
        slice_get-get_or xs (n + k) 0 inside ∙ ap Some (sym (get_or-drop n xs k 0) ∙ get_or_from_slice_get (drop n xs) k x 0 here)

pub next_line : (bytes rest first after : List ℕ) (line : ℕ) (content : Content) (reading : Reading bytes rest line content) → rest ≡ first ++ after → lines rest ≡ first ∷ lines after → CutsNoLine (length first) rest
    → Next bytes first after reading.count (reading.count + length first)
next_line bytes rest first after line content reading split begin whole =
    let count = reading.count in
    let front = lines (take count bytes) in
    let cut = cut_more bytes rest count (length first) reading.rest_is reading.place whole in
    let long : length rest ≡ length first + length after = ap length split ∙ length-append first after in
    let after_is : drop (count + length first) bytes ≡ after = sym (drop-drop (length first) count bytes) ∙ ap (drop (length first)) (reading.rest_is ∙ split) ∙ drop-append_seam first after in
    let here : lines bytes ≡ front ++ first ∷ lines after = reading.cut ∙ ap (λ l. front ++ l) begin in
    let there : lines (take (count + length first) bytes) ++ lines after ≡ (front ++ first ∷ []) ++ lines after = ap (λ l. lines (take (count + length first) bytes) ++ lines l) (sym after_is) ∙ sym (lines-cut (count + length first) bytes cut) ∙ here ∙ sym (append_assoc front (first ∷ []) (lines after)) in
    record {
      place = omega (arith, reading.place, long);
      whole = cut;
      after_is = after_is;
      said = ap (map line_says) (append_cancel_right _ _ (lines after) there) ∙ map-append line_says front (first ∷ []);
      all = ap (map line_says) here ∙ map-append line_says front (first ∷ lines after);
    }

-- the first fault is at the next line
pub fault_next : (bytes rest first after : List ℕ) (line : ℕ) (content : Content) (reading : Reading bytes rest line content) (count : ℕ) → Next bytes first after reading.count count → (why : Why) → cause content (line_says first) ≡ Some why
    → IsFault bytes (line + 1) why
fault_next bytes rest first after line content reading count next why here =
    let front = sayings (take reading.count bytes) in
    let said = line_says first in
    let back = sayings after in
    let many : length (sayings bytes) ≡ length front + length (said ∷ back) = ap length next.all ∙ length-append front (said ∷ back) in (
      line,
      refl,
      record {
        before = λ k l. subst (λ all. GoesOn all k) (sym next.all) (GoesOn-more front (said ∷ back) k (omega (arith, l, reading.line_is)) (reading.before k l));
        here = inl (omega (arith, many, reading.line_is), (λ i. cause_at (next.all i) (reading.line_is i)) ∙ cause_split front back said ∙ ap (λ c. cause c said) (sym reading.content_is) ∙ here);
      },
    )

-- the next line ends the text
pub ended_next : (bytes rest first after : List ℕ) (line : ℕ) (content : Content) (reading : Reading bytes rest line content) (count : ℕ) → Next bytes first after reading.count count → length after < length rest → cause content (line_says first) ≡ None → line_says first ≡ End
    → ReadsLines bytes content (line + 1) count
ended_next bytes rest first after line content reading count next shorter none ended =
    let front = sayings (take reading.count bytes) in
    let said = line_says first in
    let many : length (sayings (take count bytes)) ≡ length front + 1 = ap length next.said ∙ length-append front (said ∷ []) in
    record {
      within = omega (arith, next.place);
      whole = next.whole;
      last = line;
      ends = record {
        within = omega (arith, many, reading.line_is);
        before = λ at l. subst (λ all. GoesOn all at) (sym next.said) (GoesOn-more front (said ∷ []) at (omega (arith, l, reading.line_is)) (reading.before at l));
        sound = (λ i. cause_at (next.said i) (reading.line_is i)) ∙ cause_split front [] said ∙ ap (λ c. cause c said) (sym reading.content_is) ∙ none;
        ended = (λ i. said_at (next.said i) (reading.line_is i)) ∙ said_split front [] said ∙ ended;
      };
      last_is = omega (arith, many, reading.line_is);
      lines_is = refl;
      content_is = reading.content_is ∙ ap content_of (sym ((λ i. take (reading.line_is i) (next.said i)) ∙ take_at front (said ∷ []) (length front) refl));
      few = omega (arith, next.place, shorter, reading.few);
    }

-- the next line goes on
pub reading_next : (bytes rest first after : List ℕ) (line : ℕ) (content : Content) (reading : Reading bytes rest line content) (count : ℕ) → Next bytes first after reading.count count → length after < length rest → cause content (line_says first) ≡ None → (line_says first ≡ End → ⊥)
    → Reading bytes after (line + 1) (grown content (line_says first))
reading_next bytes rest first after line content reading count next shorter none unended =
    let front = sayings (take reading.count bytes) in
    let said = line_says first in
    let many : length (sayings (take count bytes)) ≡ length front + 1 = ap length next.said ∙ length-append front (said ∷ []) in
    let none' : cause (content_of front) said ≡ None = ap (λ c. cause c said) (sym reading.content_is) ∙ none in
    record {
      count = count;
      place = next.place;
      rest_is = next.after_is;
      cut = lines-cut count bytes next.whole ∙ ap (λ l. lines (take count bytes) ++ lines l) next.after_is;
      line_is = omega (arith, many, reading.line_is);
      content_is = ap (λ c. grown c said) reading.content_is ∙ sym (content_of-push front said (CanTake-None (content_of front) said none')) ∙ ap content_of (sym next.said);
      before = λ at within. elim (cases_lt at line) [
        | inl l ↦ subst (λ all. GoesOn all at) (sym next.said) (GoesOn-more front (said ∷ []) at (omega (arith, l, reading.line_is)) (reading.before at l))
        | inr m ↦ goes_on (sayings (take count bytes)) front [] said at next.said (omega (arith, within, m, reading.line_is)) none' unended
      ];
      few = omega (arith, shorter, reading.few);
    }

-- the input ends without an end line
pub fault_end : (bytes rest : List ℕ) (line : ℕ) (content : Content) → Reading bytes rest line content → length rest ≡ 0 → IsFault bytes (line + 1) (missing content)
fault_end bytes rest line content reading empty =
    let front = sayings (take reading.count bytes) in
    let all : sayings bytes ≡ front = ap (map line_says) (reading.cut ∙ ap (λ l. lines (take reading.count bytes) ++ l) (lines-empty rest empty) ∙ append-nil (lines (take reading.count bytes))) in (
      line,
      refl,
      record {
        before = λ k l. subst (λ all. GoesOn all k) (sym all) (reading.before k l);
        here = inr (reading.line_is ∙ ap length (sym all), ap missing (reading.content_is ∙ ap content_of (sym all)));
      },
    )
