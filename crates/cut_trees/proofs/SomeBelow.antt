-- Whether a number below m passes a test.
use Rattle.std.specs.Prelude.{ℕ, zero, suc, ◌≡◌, ◌<◌, Bool, true, false, ◌||◌, refl}
use Rattle.std.proofs.Common.{arith, inl, inr}
use Rattle.std.proofs.lemmas.Bool.{cases_Bool, cases_eq, or_left, or_right}

abbrev pub some_below : ℕ → (ℕ → Bool) → Bool
some_below zero f = false
some_below (suc m) f = f m || some_below m f

pub some_below-agree : (m : ℕ) (f g : ℕ → Bool) → ((j : ℕ) → j < m → f j ≡ g j) → some_below m f ≡ some_below m g
some_below-agree zero f g h = refl
some_below-agree (suc m) f g h = rw (h m (omega arith), some_below-agree m f g (λ j l. h j (omega arith))) refl

pub some_below-at : (m : ℕ) (f : ℕ → Bool) (j : ℕ) → j < m → f j ≡ true → some_below m f ≡ true
some_below-at zero f j l e = absurd (omega arith)
some_below-at (suc m) f j l e =
    elim (cases_eq j m) [
      | inl same ↦ or_left (f m) (some_below m f) (rw same at e)
      | inr other ↦ or_right (f m) (some_below m f) (some_below-at m f j (omega arith) e)
    ]

pub record Found (m : ℕ) (f : ℕ → Bool) : Type 0 where
  pub place : ℕ
  pub below : place < m
  pub passes : f place ≡ true

pub found : (m : ℕ) (f : ℕ → Bool) → some_below m f ≡ true → Found m f
found zero f e = absurd cc
found (suc m) f e =
    elim (cases_Bool (f m)) [
      | inl here ↦ record { place = m; below = omega arith; passes = here }
      | inr not_here ↦ (let r = found m f (rw not_here at e) in record { place = r.place; below = omega (arith, r.below); passes = r.passes })
    ]
