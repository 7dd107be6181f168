-- Decimals, and what is read as a number.
use Rattle.std.proofs.Common.{◌≡◌, ◌≢◌, ◌↔◌, Bool, IsTrue, Option, Some, None, IfSome, IfNone, unwrap_or, ℕ, zero, suc, ◌^◌, ◌<◌, ◌≤◌, List, length, get_or, Result, Ok, Err, refl, arith, sym, ◌∙◌, ap}
use Rattle.std.specs.Fmt.{decimal}
use Rattle.std.specs.Str.Parse.{AllDigits, digits_value, ParsesUnsigned}
use Rattle.std.proofs.lemmas.Str.Parse.{IsNumeralModel, parse_plain}
use Rattle.std.proofs.lemmas.Fmt.{decimal-digits_value, decimal_injective, decimal_digit, first_decimal, parse-decimal}
use Rattle.connect_words.specs.Blanks.{IsDecimal, ReadsNumber}

pub some_injective : {x y : List ℕ} → Some x ≡ Some y → x ≡ y
some_injective e = cc

pub own : IsNumeralModel (AllDigits 10) (digits_value 10)
own = record { to = λ ds h. h; from = λ ds h. h; same = λ ds h. refl }

-- what is read from a text without a plus and without a needless zero has this text as its decimal
pub read-decimal : (bs : List ℕ) (n : ℕ) → ParsesUnsigned {E = Unit {0}} 32 10 bs (Ok n) → get_or bs 0 0 ≢ 43 → (get_or bs 0 0 ≡ 48 → length bs ≤ 1) → bs ≡ decimal n
read-decimal bs n parsed no_plus no_zero =
    let (digits, value) = parse_plain own {E = Unit {0}} 32 bs (Ok n) parsed no_plus in
    let one : get_or bs 0 0 ≡ 48 → length bs ≡ 1 = λ e. let h : length bs ≤ 1 = no_zero e in omega (arith, digits.1, h) in
    let small : digits_value 10 bs < 2 ^ 64 = omega (arith, digits.2) in
    sym (decimal-digits_value own bs digits.0 digits.1 one small) ∙ ap decimal (sym value)

-- a text that isn't read is no decimal
pub unread-decimal : (E : Type 0) (bs : List ℕ) (e : E) → ParsesUnsigned {E = E} 32 10 bs (Err e) → (n : ℕ) → n < 2 ^ 32 → bs ≢ decimal n
unread-decimal E bs e parsed n small same =
    let wide : n < 2 ^ 64 = omega (arith, small) in
    let r : Result ℕ E = Err e in let ok : r ≡ Ok n = parse-decimal {E = E} 32 n bs r small wide same parsed in
    cc

plain_digit : (n : ℕ) (bs : List ℕ) → n < 10 → bs ≡ decimal n → (get_or bs 0 0 ≢ 43) × (get_or bs 0 0 ≡ 48 → length bs ≤ 1)
plain_digit n bs small same = let e = same ∙ decimal_digit n small in rw e ((λ h. omega (arith, h)), (λ h. omega arith))

plain_more : (n : ℕ) (bs : List ℕ) → 0 < n → n < 2 ^ 64 → bs ≡ decimal n → (get_or bs 0 0 ≢ 43) × (get_or bs 0 0 ≡ 48 → length bs ≤ 1)
plain_more n bs some small same = let first = first_decimal n some small in rw same ((λ h. omega (arith, first, h)), (λ h. absurd (omega (arith, first, h))))

-- a decimal begins with no plus, and with a zero only where this is all of it
pub decimal_plain : (n : ℕ) (bs : List ℕ) → n < 2 ^ 32 → bs ≡ decimal n → (get_or bs 0 0 ≢ 43) × (get_or bs 0 0 ≡ 48 → length bs ≤ 1)
decimal_plain zero bs small same = plain_digit 0 bs (omega arith) same
decimal_plain (suc n) bs small same = plain_more (suc n) bs (omega arith) (omega (arith, small)) same

-- a decimal has one number
pub number_within : (low high n : ℕ) (bs : List ℕ) → high < 2 ^ 32 → n < 2 ^ 32 → bs ≡ decimal n → IsDecimal (λ m. (low ≤ m) × (m ≤ high)) bs → (low ≤ n) × (n ≤ high)
number_within low high n bs fits small same (m, (above, below), other) =
    let e : n ≡ m = decimal_injective n m (omega (arith, small)) (omega (arith, below, fits)) (sym same ∙ other) in
    (omega (arith, e, above), omega (arith, e, below))

-- a test of the number that a word writes is a test of the word
pub tests_number : (low high n : ℕ) (bs : List ℕ) (b : Bool) → high < 2 ^ 32 → n < 2 ^ 32 → bs ≡ decimal n → (IsTrue b → (low ≤ n) × (n ≤ high)) → ((low ≤ n) × (n ≤ high) → IsTrue b) → IsTrue b ↔ IsDecimal (λ m. (low ≤ m) × (m ≤ high)) bs
tests_number low high n bs b fits small same to from = ((λ t. (n, to t, same)), (λ d. from (number_within low high n bs fits small same d)))

-- what stands in the place of a number that isn't there doesn't matter
pub reads_number : (given : Option (List ℕ)) (w : List ℕ) (r : Option ℕ) (read : ℕ) → given ≡ Some w → IfSome r (λ n. w ≡ decimal n) → IfSome r (λ n. n < 2 ^ 32) → IfNone r ((n : ℕ) → n < 2 ^ 32 → w ≢ decimal n) → read ≡ unwrap_or r 0 → ReadsNumber given read
reads_number given w (Some n) read there found within absent is number small same =
    is ∙ decimal_injective n number (omega (arith, within)) (omega (arith, small)) (sym found ∙ some_injective (sym there ∙ same))
reads_number given w None read there found within absent is number small same = absurd (absent number small (some_injective (sym there ∙ same)))
