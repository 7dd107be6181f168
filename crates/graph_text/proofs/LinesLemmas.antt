-- Where the first line and the first word end.
use Rattle.std.proofs.Common.{◌≡◌, ℕ, ◌+◌, ◌<◌, ◌≤◌, Bool, true, false, cond, not, inl, inr, zero, List, [], ◌∷◌, length, take, drop, get_or, refl, sym, ap, ◌∙◌, add-one, drop-cons, All, arith, suc, subst, lt-ltb, take_all, drop_of_length-le, le_refl}
use Rattle.std.specs.Prelude.{filter}
use Rattle.std.specs.List.{position_or_len, slice_split, onto_first, after_first}
use Rattle.std.proofs.lemmas.List.Splits.{slice_split-cons_yes, slice_split_first, slice_split_none}
use Rattle.std.proofs.lemmas.List.Recursion.{is_position_or_len}
use Rattle.std.proofs.lemmas.List.Sums.{passes_at_first, fails_before_first, prefix_len-le-length}
use Rattle.std.proofs.lemmas.Bool.{cases_lt}
use Rattle.std.proofs.lemmas.Grind.{common_steps}
use Rattle.graph_text.specs.Lines.{lines, words, is_line_feed, is_blank, is_some_word}

-- the first LF, or the end
abbrev before_line_feed : List ℕ → ℕ
before_line_feed [] = 0
before_line_feed (byte ∷ bytes) = cond (is_line_feed byte) 0 (1 + before_line_feed bytes)

first_if : (is_end : Bool) (byte n : ℕ) (rest : List ℕ) (more : List (List ℕ)) → more ≡ take (n + 1) rest ∷ lines (drop (n + 1) rest)
    → cond is_end ((byte ∷ []) ∷ more) (onto_first byte more) ≡ take (cond is_end 0 (1 + n) + 1) (byte ∷ rest) ∷ cond is_end more (lines (drop (n + 1) rest))
first_if true byte n rest more e = refl
first_if false byte n rest more e = let s : 1 + n + 1 ≡ suc (n + 1) = omega arith in rw (e, s) refl

rest_if : (is_end : Bool) (byte n : ℕ) (rest : List ℕ) → drop (cond is_end 0 (1 + n) + 1) (byte ∷ rest) ≡ cond is_end rest (drop (n + 1) rest)
rest_if true byte n rest = refl
rest_if false byte n rest = let s : 1 + n + 1 ≡ suc (n + 1) = omega arith in rw s refl

lines-if : (b : Bool) (xs ys : List ℕ) → cond b (lines xs) (lines ys) ≡ lines (cond b xs ys)
lines-if true xs ys = refl
lines-if false xs ys = refl

lines_first_by : (byte : ℕ) (bytes : List ℕ) → lines (byte ∷ bytes) ≡ take (before_line_feed (byte ∷ bytes) + 1) (byte ∷ bytes) ∷ lines (drop (before_line_feed (byte ∷ bytes) + 1) (byte ∷ bytes))
lines_first_by byte [] = elim (is_line_feed byte) as (λ b. cond b ((byte ∷ []) ∷ []) ((byte ∷ []) ∷ []) ≡ take (cond b 0 1 + 1) (byte ∷ []) ∷ lines (drop (cond b 0 1 + 1) (byte ∷ []))) [ true ↦ refl | false ↦ refl ]
lines_first_by byte (next ∷ bytes) =
    let rest = next ∷ bytes in
    let n = before_line_feed rest in
    first_if (is_line_feed byte) byte n rest (lines rest) (lines_first_by next bytes)
    ∙ ap (λ l. take (cond (is_line_feed byte) 0 (1 + n) + 1) (byte ∷ rest) ∷ l) (lines-if (is_line_feed byte) rest (drop (n + 1) rest) ∙ ap lines (sym (rest_if (is_line_feed byte) byte n rest)))

before_line_feed-is : (bytes : List ℕ) → before_line_feed bytes ≡ position_or_len is_line_feed bytes
before_line_feed-is = is_position_or_len before_line_feed is_line_feed refl (λ x xs. refl)

-- the first line ends behind the first LF, or at the end
pub lines_first : (bytes : List ℕ) → 0 < length bytes → lines bytes ≡ take (position_or_len is_line_feed bytes + 1) bytes ∷ lines (drop (position_or_len is_line_feed bytes + 1) bytes)
lines_first [] some = absurd (omega arith)
lines_first (byte ∷ bytes) some =
    let P : ℕ → Type 0 = λ n. lines (byte ∷ bytes) ≡ take (n + 1) (byte ∷ bytes) ∷ lines (drop (n + 1) (byte ∷ bytes)) in
    subst P (before_line_feed-is (byte ∷ bytes)) (lines_first_by byte bytes)

-- a text without an LF is one line
pub lines_last : (bytes : List ℕ) → 0 < length bytes → length bytes ≤ position_or_len is_line_feed bytes → lines bytes ≡ take (length bytes) bytes ∷ lines (drop (length bytes) bytes)
lines_last bytes some past =
    let past' : length bytes ≤ position_or_len is_line_feed bytes + 1 = omega (arith, past) in
    lines_first bytes some ∙ rw (take_all _ bytes past', drop_of_length-le bytes past', take_all _ bytes (le_refl (length bytes)), drop_of_length-le bytes (le_refl (length bytes))) refl

-- a blank in front changes no word
pub words-blank : (byte : ℕ) (bytes : List ℕ) → is_blank byte ≡ true → words (byte ∷ bytes) ≡ words bytes
words-blank byte bytes blank = ap (filter is_some_word) (slice_split-cons_yes is_blank byte bytes blank)

-- what follows a word begins with a blank, or is nothing
words_after : (xs : List ℕ) (n : ℕ) → n ≡ position_or_len is_blank xs → n < length xs → words (drop n xs) ≡ words (after_first is_blank xs)
words_after xs n e l =
    let cut : drop n xs ≡ get_or xs n 0 ∷ drop (n + 1) xs = rw (add-one, drop-cons xs n 0) refl in
    let blank : is_blank (get_or xs n 0) ≡ true = rw e (passes_at_first is_blank xs 0 (rw (← e) l)) in
    ap words cut ∙ words-blank (get_or xs n 0) (drop (n + 1) xs) blank ∙ ap (λ m. words (drop (m + 1) xs)) e

pub some_first : (word : List ℕ) (parts : List (List ℕ)) → 0 < length word → filter is_some_word (word ∷ parts) ≡ word ∷ filter is_some_word parts
some_first word parts some = let t : is_some_word word ≡ true = lt-ltb _ _ some in ap (λ b. cond b (word ∷ filter is_some_word parts) (filter is_some_word parts)) t

-- the first word ends at the first blank, or at the end
words_first : (xs : List ℕ) (n : ℕ) → n ≡ position_or_len is_blank xs → 0 < n → n < length xs → words xs ≡ take n xs ∷ words (drop n xs)
words_first xs n e some l =
    let cut : slice_split is_blank xs ≡ take n xs ∷ slice_split is_blank (after_first is_blank xs) = rw e (slice_split_first is_blank xs 0 (rw (← e) l)) in
    let long : 0 < length (take n xs) = grind (arith, common_steps) in
    ap (filter is_some_word) cut ∙ some_first (take n xs) (slice_split is_blank (after_first is_blank xs)) long ∙ ap (λ ws. take n xs ∷ ws) (sym (words_after xs n e l))

words_last : (xs : List ℕ) → 0 < length xs → position_or_len is_blank xs ≡ length xs → words xs ≡ xs ∷ []
words_last xs some e =
    let none : All (λ x. is_blank x ≡ false) xs = λ k d m. fails_before_first is_blank xs k d (rw e m) in
    ap (filter is_some_word) (slice_split_none is_blank xs none) ∙ some_first xs [] some

begin_some : (xs : List ℕ) (n : ℕ) → n ≡ position_or_len is_blank xs → 0 < length xs → is_blank (get_or xs 0 0) ≡ false → 0 < n
begin_some xs zero e some first =
    let l : position_or_len is_blank xs < length xs = rw (← e) some in
    let P : ℕ → Type 0 = λ m. is_blank (get_or xs m 0) ≡ true in
    let blank : is_blank (get_or xs 0 0) ≡ true = subst P (sym e) (passes_at_first is_blank xs 0 l) in
    cc
begin_some xs (suc n) e some first = omega arith

pub blank_within : (xs : List ℕ) → position_or_len is_blank xs ≤ length xs
blank_within xs = prefix_len-le-length (λ x. not (is_blank x)) xs

-- a text that begins with no blank begins with a word
pub words_begin : (xs : List ℕ) (n : ℕ) → n ≡ position_or_len is_blank xs → 0 < length xs → is_blank (get_or xs 0 0) ≡ false → words xs ≡ take n xs ∷ words (drop n xs)
words_begin xs n e some first =
    elim (cases_lt n (length xs)) [
      | inl l ↦ words_first xs n e (begin_some xs n e some first) l
      | inr m ↦
          let whole : n ≡ length xs = omega (arith, e, blank_within xs) in
          words_last xs some (sym e ∙ whole) ∙ rw (take_all n xs m, drop_of_length-le xs m) refl
    ]
