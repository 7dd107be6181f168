-- Words that are decimals.
use Rattle.std.proofs.Common.{◌≡◌, ◌≢◌, ℕ, ◌^◌, ◌<◌, ◌≤◌, Bool, true, false, ◌&&◌, nat_le, List, refl, sym, ap, ◌∙◌, All, arith}
use Rattle.std.specs.Fmt.{decimal}
use Rattle.std.specs.Char.{is_ascii_digit}
use Rattle.std.specs.Str.{bytes_eq, all_ascii_digits}
use Rattle.std.specs.Str.Parse.{AllDigits, digits_value}
use Rattle.std.proofs.lemmas.Bool.{and_parts, leb-true, le-leb}
use Rattle.std.proofs.lemmas.Fmt.{digits_value-decimal, digits_decimal}
use Rattle.std.proofs.lemmas.List.Sums.{AllPass-from_list_all}
use Rattle.std.proofs.lemmas.Slice.Eq.{bytes_eq-Decides}
use Rattle.std.proofs.lemmas.Str.Parse.{IsNumeralModel, tells_all_ascii_digits, numerals_by_value}
use Rattle.graph_text.specs.Numbers.{value, is_number}

own : IsNumeralModel (AllDigits 10) (digits_value 10)
own = record { to = λ ds h. h; from = λ ds h. h; same = λ ds h. refl }

pub value-decimal : (n : ℕ) → n < 2 ^ 64 → value (decimal n) ≡ n
value-decimal n fit = digits_value-decimal own n fit

-- a decimal is tested by its number
pub is_number-of : (most n : ℕ) (word : List ℕ) → n < 2 ^ 64 → decimal n ≡ word → is_number most word ≡ nat_le n most
is_number-of most n word fit same =
    let v : value word ≡ n = ap value (sym same) ∙ value-decimal n fit in
    let first : bytes_eq word (decimal (value word)) ≡ true = (bytes_eq-Decides word (decimal (value word))).1 (sym same ∙ ap decimal (sym v)) in
    λ i. first i && nat_le (v i) most

pub is_number-decimal : (most n : ℕ) → n ≤ most → n < 2 ^ 64 → is_number most (decimal n) ≡ true
is_number-decimal most n few fit = is_number-of most n (decimal n) fit refl ∙ le-leb n most few

pub value-within : (most : ℕ) (word : List ℕ) → is_number most word ≡ true → value word ≤ most
value-within most word e = leb-true (value word) most (and_parts (bytes_eq word (decimal (value word))) (nat_le (value word) most) e).1

-- a word that is no decimal is no number
pub is_number-none : (most : ℕ) (word : List ℕ) → most < 2 ^ 64 → ((n : ℕ) → n < 2 ^ 64 → decimal n ≢ word) → is_number most word ≡ false
is_number-none most word fit none = by (is_number most word) refl
  where
    by : (b : Bool) → is_number most word ≡ b → is_number most word ≡ false
    by true e =
        let within = value-within most word e in
        let same : word ≡ decimal (value word) = (bytes_eq-Decides word (decimal (value word))).0 (and_parts (bytes_eq word (decimal (value word))) (nat_le (value word) most) e).0 in
        absurd (none (value word) (omega (arith, within, fit)) (sym same))
    by false e = e

-- a decimal has digits alone
pub decimal-digits : (n : ℕ) → n < 2 ^ 64 → All (λ c. is_ascii_digit c ≡ true) (decimal n)
decimal-digits n fit = AllPass-from_list_all is_ascii_digit (decimal n) (digits_decimal (numerals_by_value (λ ds. all_ascii_digits ds ≡ true) tells_all_ascii_digits) n fit)
