-- Bytes that are cut behind whole lines.
use Rattle.std.proofs.Common.{◌≡◌, ℕ, ◌≤◌, true, false, cond, List, [], ◌∷◌, ◌++◌, length, take, drop, map, refl, sym, ap, ◌∙◌, inl, inr, append_assoc, append-nil, take-append-drop, take_all, drop_of_length-le, arith}
use Rattle.std.specs.List.{concat, onto_first}
use Rattle.std.proofs.lemmas.List.{take_more, map-append}
use Rattle.std.proofs.lemmas.Option.{slice_get_within, get_or_from_slice_get}
use Rattle.graph_text.specs.Lines.{lines, is_line_feed}
use Rattle.graph_text.specs.Said.{line_says}
use Rattle.graph_text.specs.Text.{sayings}
use Rattle.graph_text.specs.Reading.{CutsNoLine}

pub lines-empty : (bytes : List ℕ) → length bytes ≡ 0 → lines bytes ≡ []
lines-empty [] empty = refl
lines-empty (byte ∷ bytes) empty = absurd (omega (arith, empty))

-- what isn't empty has a first line
abbrev Begins : List (List ℕ) → Type 0
Begins all = (first : List ℕ) × (more : List (List ℕ)) × (all ≡ first ∷ more)

onto_begins : (byte : ℕ) (all : List (List ℕ)) → Begins (onto_first byte all)
onto_begins byte [] = (byte ∷ [], [], refl)
onto_begins byte (first ∷ more) = (byte ∷ first, more, refl)

lines_begin : (byte : ℕ) (bytes : List ℕ) → Begins (lines (byte ∷ bytes))
lines_begin byte bytes = elim (is_line_feed byte) as (λ b. Begins (cond b ((byte ∷ []) ∷ lines bytes) (onto_first byte (lines bytes)))) [ true ↦ (byte ∷ [], lines bytes, refl) | false ↦ onto_begins byte (lines bytes) ]

fed_begins : (bytes : List ℕ) → Begins (lines (bytes ++ 10 ∷ []))
fed_begins [] = lines_begin 10 []
fed_begins (byte ∷ bytes) = lines_begin byte (bytes ++ 10 ∷ [])

onto-append : (byte : ℕ) (all more : List (List ℕ)) → Begins all → onto_first byte (all ++ more) ≡ onto_first byte all ++ more
onto-append byte [] more (first, rest, e) = cc
onto-append byte (line ∷ all) more begins = refl

-- the lines of bytes of which the first end in LF
lines-fed : (front back : List ℕ) → lines (front ++ 10 ∷ back) ≡ lines (front ++ 10 ∷ []) ++ lines back
lines-fed [] back = refl
lines-fed (byte ∷ front) back =
    let more = lines-fed front back in
    elim (is_line_feed byte) as (λ b. cond b ((byte ∷ []) ∷ lines (front ++ 10 ∷ back)) (onto_first byte (lines (front ++ 10 ∷ back))) ≡ cond b ((byte ∷ []) ∷ lines (front ++ 10 ∷ [])) (onto_first byte (lines (front ++ 10 ∷ []))) ++ lines back) [
      | true ↦ ap (λ l. (byte ∷ []) ∷ l) more
      | false ↦ ap (onto_first byte) more ∙ onto-append byte (lines (front ++ 10 ∷ [])) (lines back) (fed_begins front)
    ]

-- a cut behind whole lines cuts the lines
pub lines-cut : (count : ℕ) (bytes : List ℕ) → CutsNoLine count bytes → lines bytes ≡ lines (take count bytes) ++ lines (drop count bytes)
lines-cut count bytes (inl all) =
    let past : length bytes ≤ count = omega (arith, all) in
    sym (append-nil (lines bytes)) ∙ (λ i. lines (sym (take_all count bytes past) i) ++ lines (sym (drop_of_length-le bytes past) i))
lines-cut count bytes (inr (before, is, here)) =
    let back = drop count bytes in
    let within = slice_get_within bytes before 10 here in
    let front : take count bytes ≡ take before bytes ++ 10 ∷ [] = ap (λ n. take n bytes) is ∙ take_more bytes before 0 within ∙ ap (λ x. take before bytes ++ x ∷ []) (get_or_from_slice_get bytes before 10 0 here) in
    let whole : bytes ≡ take before bytes ++ 10 ∷ back = sym (take-append-drop count bytes) ∙ ap (λ l. l ++ back) front ∙ append_assoc (take before bytes) (10 ∷ []) back in
    ap lines whole ∙ lines-fed (take before bytes) back ∙ ap (λ l. lines l ++ lines back) (sym front)

pub sayings-cut : (count : ℕ) (bytes : List ℕ) → CutsNoLine count bytes → sayings bytes ≡ sayings (take count bytes) ++ sayings (drop count bytes)
sayings-cut count bytes whole = ap (map line_says) (lines-cut count bytes whole) ∙ map-append line_says (lines (take count bytes)) (lines (drop count bytes))

concat-onto : (byte : ℕ) (all : List (List ℕ)) → concat (onto_first byte all) ≡ byte ∷ concat all
concat-onto byte [] = refl
concat-onto byte (line ∷ all) = refl

-- the lines together are the bytes
pub concat-lines : (bytes : List ℕ) → concat (lines bytes) ≡ bytes
concat-lines [] = refl
concat-lines (byte ∷ bytes) =
    let rest = concat-lines bytes in
    elim (is_line_feed byte) as (λ b. concat (cond b ((byte ∷ []) ∷ lines bytes) (onto_first byte (lines bytes))) ≡ byte ∷ bytes) [
      | true ↦ ap (λ l. byte ∷ l) rest
      | false ↦ concat-onto byte (lines bytes) ∙ ap (λ l. byte ∷ l) rest
    ]
