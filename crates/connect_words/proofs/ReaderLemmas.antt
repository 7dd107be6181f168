-- What the reader finds in the words, as a command or as the first bad place.
use Rattle.std.proofs.Common.{◌≡◌, ℕ, ◌+◌, ◌<◌, ◌≤◌, ◌⊎◌, List, [], ◌∷◌, Option, Some, length, slice_get, sym, ◌∙◌, ap, subst, arith, add-one, inl, inr}
use Rattle.connect_words.specs.declared.blank.FirstWord.{FirstWord}
use Rattle.connect_words.specs.declared.blank.Blank.{Blank}
use Rattle.connect_words.specs.Places.{IsFirstBadPlace}
use Rattle.connect_words.specs.Blanks.{Takes, blanks, first_word}
use Rattle.std.proofs.lemmas.Bool.{cases_lt}
use Rattle.connect_words.proofs.NumberLemmas.{some_injective}
use Rattle.connect_words.proofs.PlaceLemmas.{stop_is_bad}

-- the first word is this verb, and so many blanks are filled, whatever the next one is
pub record Filled (words : List (List ℕ)) (v : FirstWord) (ss : List Blank) (n : ℕ) : Type 0 where
  pub blanks_are : ss ≡ blanks v
  pub head : slice_get words 0 ≡ Some (first_word v)
  pub within : n ≤ length ss
  pub before : (at : ℕ) → at < n → Takes (slice_get ss at) (slice_get words (at + 1))
  pub stop : n < length ss → Takes (slice_get ss n) (slice_get words (n + 1)) → ⊥

behind : (w : List ℕ) (ws : List (List ℕ)) (blank : Option Blank) (at : ℕ) → Takes blank (slice_get (w ∷ ws) (at + 1)) → Takes blank (slice_get ws at)
behind w ws blank at h = subst (λ k. Takes blank (slice_get (w ∷ ws) k)) (add-one at) h

ahead : (w : List ℕ) (ws : List (List ℕ)) (blank : Option Blank) (at : ℕ) → Takes blank (slice_get ws at) → Takes blank (slice_get (w ∷ ws) (at + 1))
ahead w ws blank at h = subst (λ k. Takes blank (slice_get (w ∷ ws) k)) (sym (add-one at)) h

-- the first bad place
pub filled_is_bad : (words : List (List ℕ)) (v : FirstWord) (ss : List Blank) (n : ℕ) → Filled words v ss n → (n < length ss) ⊎ (length ss + 1 < length words) → IsFirstBadPlace words (n + 2)
filled_is_bad [] v ss n f wrong = let e = f.head in absurd cc
filled_is_bad (w ∷ ws) v ss n f wrong = subst (λ u. IsFirstBadPlace (u ∷ ws) (n + 2)) (sym (some_injective f.head)) (stop_is_bad v ws n (record { filled = filled; stop = elim wrong [ inl below ↦ inl (next below) | inr more ↦ elim (cases_lt n (length ss)) [ inl below ↦ inl (next below) | inr over ↦ inr (end over more) ] ] }))
  where
    end : length ss ≤ n → length ss + 1 < length (w ∷ ws) → (n ≡ length (blanks v)) × (n < length ws)
    end over more = let all : n ≡ length ss = omega (arith, over, f.within) in (all ∙ ap length f.blanks_are, omega (arith, all, more))

    filled : (at : ℕ) → at < n → Takes (slice_get (blanks v) at) (slice_get ws at)
    filled at below = subst (λ s. Takes (slice_get s at) (slice_get ws at)) f.blanks_are (behind w ws (slice_get ss at) at (f.before at below))

    next : n < length ss → (n < length (blanks v)) × (Takes (slice_get (blanks v) n) (slice_get ws n) → ⊥)
    next below = (subst (λ s. n < length s) f.blanks_are below, λ t. f.stop below (ahead w ws (slice_get ss n) n (subst (λ s. Takes (slice_get s n) (slice_get ws n)) (sym f.blanks_are) t)))
