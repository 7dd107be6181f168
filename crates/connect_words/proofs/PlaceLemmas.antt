-- Why a place is the first bad one.
use Rattle.std.proofs.Common.{◌≡◌, ◌≢◌, ℕ, zero, suc, ◌+◌, ◌<◌, ◌⊎◌, List, [], ◌∷◌, Some, length, get_or, slice_get, refl, sym, ◌∙◌, ap, subst, arith, inl, inr}
use Rattle.std.specs.Fmt.{decimal}
use Rattle.connect_words.specs.declared.command.Command.{Command}
use Rattle.connect_words.specs.declared.command.Command.TheVariants.{Flow, CutTree}
use Rattle.connect_words.specs.declared.command.TrialKind.TheVariants as trial
use Rattle.connect_words.specs.declared.blank.FirstWord.{FirstWord}
use Rattle.connect_words.specs.declared.blank.FirstWord.TheVariants as first
use Rattle.problem_defs.specs.declared.verb.Verb.TheVariants as verb
use Rattle.connect_words.specs.declared.blank.Blank.{Blank}
use Rattle.connect_words.specs.declared.blank.Blank.TheVariants.{Name, Kind, K, Nodes, Number}
use Rattle.connect_words.specs.Commands.{Writes, kind_word}
use Rattle.connect_words.specs.Places.{IsFirstBadPlace}
use Rattle.connect_words.specs.Blanks.{MayStand, AllMayStand, Takes, blanks, first_word, first_of}
use Rattle.std.proofs.lemmas.Option.{slice_get_within, slice_get-get_or}
use Rattle.connect_words.proofs.NumberLemmas.{some_injective}
use Rattle.connect_words.proofs.CommandLemmas.{writes_blanks, some_command}
use Rattle.connect_words.proofs.VerbLemmas.{first_word_injective}

-- each command has a word
pub writes_some : (command : Command) → Writes command [] → ⊥
writes_some Flow h = h.fill
writes_some command h = h.fill

-- for each blank there is a word
example : (blank : Blank) → (w : List ℕ) × MayStand blank w
example Name = ([], tt)
example Kind = (kind_word trial.Flow, (trial.Flow, refl))
example K = (decimal 1, (1, (omega arith, omega arith), refl))
example Nodes = (decimal 2, (2, (omega arith, omega arith), refl))
example Number = (decimal 0, (0, (omega arith, omega arith), refl))

agree_more : (w : List ℕ) (full ws : List (List ℕ)) (n : ℕ) → ((at : ℕ) → at < n → slice_get full at ≡ slice_get ws at) → (at : ℕ) → at < suc n → slice_get (w ∷ full) at ≡ slice_get (w ∷ ws) at
agree_more w full ws n agree zero below = refl
agree_more w full ws n agree (suc at) below = agree at (omega (arith, below))

-- words that may stand in the blanks in front can be completed
extend : (ss : List Blank) (ws : List (List ℕ)) (n : ℕ) → ((at : ℕ) → at < n → Takes (slice_get ss at) (slice_get ws at)) → (full : List (List ℕ)) × AllMayStand ss full × ((at : ℕ) → at < n → slice_get full at ≡ slice_get ws at)
extend [] ws n h = ([], tt, λ at below. absurd (h at below))
extend (s ∷ ss) ws zero h =
    let (w, suits) = example s in
    let (full, suit, _) = extend ss [] 0 (λ at below. absurd (omega (arith, below))) in
    (w ∷ full, (suits, suit), λ at below. absurd (omega (arith, below)))
extend (s ∷ ss) [] (suc n) h = absurd (h 0 (omega arith))
extend (s ∷ ss) (w ∷ ws) (suc n) h =
    let (full, suit, agree) = extend ss ws n (λ at below. h (suc at) (omega (arith, below))) in
    (w ∷ full, (h 0 (omega arith), suit), agree_more w full ws n agree)

suit_at : (ss : List Blank) (ws : List (List ℕ)) (n : ℕ) → AllMayStand ss ws → n < length ss → Takes (slice_get ss n) (slice_get ws n)
suit_at [] ws n h below = absurd (omega (arith, below))
suit_at (s ∷ ss) [] n h below = absurd h
suit_at (s ∷ ss) (w ∷ ws) zero h below = h.0
suit_at (s ∷ ss) (w ∷ ws) (suc n) h below = suit_at ss ws n h.1 (omega (arith, below))

suit_length : (ss : List Blank) (ws : List (List ℕ)) → AllMayStand ss ws → length ws ≡ length ss
suit_length [] [] h = refl
suit_length [] (w ∷ ws) h = absurd h
suit_length (s ∷ ss) [] h = absurd h
suit_length (s ∷ ss) (w ∷ ws) h = ap suc (suit_length ss ws h.1)

reaches : (xs ys : List (List ℕ)) (n : ℕ) → slice_get xs n ≡ slice_get ys n → n < length ys → n < length xs
reaches xs ys n e h = slice_get_within xs n (get_or ys n []) (e ∙ slice_get-get_or ys n [] h)

-- no command begins with the first word, or there is none
pub first_is_bad : (words : List (List ℕ)) → ((v : FirstWord) → slice_get words 0 ≢ Some (first_word v)) → IsFirstBadPlace words 1
first_is_bad words absent = record {
  bad = λ (command, full, writes, agree). no_command command full writes (agree 0 (omega arith));
  first = λ earlier below. (CutTree, first_word (first.Asks verb.CutTree) ∷ [], record { limits = tt; fill = (refl, tt) }, λ at under. absurd (omega (arith, below, under)));
}
  where
    no_command : (command : Command) (full : List (List ℕ)) → Writes command full → slice_get full 0 ≡ slice_get words 0 → ⊥
    no_command command [] writes e = writes_some command writes
    no_command command (w ∷ ws) writes e = absent (first_of command) (sym e ∙ ap Some (writes_blanks command w ws writes).0)

-- the words behind the first word of a command fill so many blanks, and then the next blank isn't filled, or none
-- is left and words are
pub record StopsAt (v : FirstWord) (ws : List (List ℕ)) (n : ℕ) : Type 0 where
  pub filled : (at : ℕ) → at < n → Takes (slice_get (blanks v) at) (slice_get ws at)
  pub stop : ((n < length (blanks v)) × (Takes (slice_get (blanks v) n) (slice_get ws n) → ⊥)) ⊎ ((n ≡ length (blanks v)) × (n < length ws))

no_further : (v : FirstWord) (ws full : List (List ℕ)) (n : ℕ) → StopsAt v ws n → AllMayStand (blanks v) full → slice_get full n ≡ slice_get ws n → ⊥
no_further v ws full n stops suit e = elim stops.stop [
  | inl (within, refuses) ↦ refuses (subst (λ w. Takes (slice_get (blanks v) n) w) e (suit_at (blanks v) full n suit within))
  | inr (all, more) ↦ let r : n < length full = reaches full ws n e more in let l : length full ≡ length (blanks v) = suit_length (blanks v) full suit in omega (arith, all, r, l)
]

later_is_bad : (v : FirstWord) (ws : List (List ℕ)) (n : ℕ) → StopsAt v ws n → (command : Command) (full : List (List ℕ)) → Writes command full → ((at : ℕ) → at < suc (suc n) → slice_get full at ≡ slice_get (first_word v ∷ ws) at) → ⊥
later_is_bad v ws n stops command [] writes agree = writes_some command writes
later_is_bad v ws n stops command (w ∷ full) writes agree =
    let (is, suit) = writes_blanks command w full writes in
    let same : first_of command ≡ v = first_word_injective (first_of command) v (sym is ∙ some_injective (agree 0 (omega arith))) in
    no_further v ws full n stops (subst (λ u. AllMayStand (blanks u) full) same suit) (agree (suc n) (omega arith))

-- behind the first word
pub stop_is_bad : (v : FirstWord) (ws : List (List ℕ)) (n : ℕ) → StopsAt v ws n → IsFirstBadPlace (first_word v ∷ ws) (n + 2)
stop_is_bad v ws n stops = record {
  bad = λ (command, full, writes, agree). later_is_bad v ws n stops command full writes (λ at below. agree at (omega (arith, below)));
  first = λ earlier below.
      let (full, suit, agree) = extend (blanks v) ws n stops.filled in
      let (command, writes) = some_command v full suit in
      (command, first_word v ∷ full, writes, λ at under. agree_more (first_word v) full ws n agree at (omega (arith, below, under)));
}
