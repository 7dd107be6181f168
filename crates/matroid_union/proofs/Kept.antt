-- What is kept of a part.
use Rattle.std.proofs.Common.{ℕ, ◌≡◌, ◌≢◌, ◌+◌, ◌<◌, ◌≤◌, Bool, true, false, ◌&&◌, ◌||◌, leb, ◌⊎◌, inl, inr, List, Option, sym, refl, ap, ◌∙◌, arith, ⊎_elim, subst}
use Rattle.std.proofs.lemmas.Bool.{cases_eq, cases_lt, cases_Bool, both_ways, and_parts, and_from, or_cases, or_left, or_right, or_from, and_left, and_right, leb-true, le-leb, lt-leb}
use Rattle.graph_core.specs.Side.{has}
use Rattle.matroid_union.specs.Matroid.{IsMatroid}
use Rattle.matroid_union.specs.Sets.{plus, swap}
use Rattle.graph_core.specs.Sets.{set_of}
use Rattle.matroid_union.specs.Parts.{part, kept}
use Rattle.matroid_union.proofs.Members.{plus-old, plus-new, plus-cases, plus-false, plus-other}
use Rattle.matroid_union.proofs.Exchanges.{part_of, found}

module _ (own : ℕ → Option ℕ) (reached : List Bool) (p a : ℕ) where
  pub kept-part : (i : ℕ) → kept own reached p a i ≡ true → part own p i ≡ true
  kept-part i h = (and_parts (part own p i) (leb a i || has reached i) h).0

  pub kept-cases : (i : ℕ) → kept own reached p a i ≡ true → (a ≤ i) ⊎ (has reached i ≡ true)
  kept-cases i h =
      ⊎_elim (λ l. inl (leb-true a i l)) (λ r. inr r)
      (or_cases (leb a i) (has reached i) (and_parts (part own p i) (leb a i || has reached i) h).1)

  pub kept-above : (i : ℕ) → part own p i ≡ true → a ≤ i → kept own reached p a i ≡ true
  kept-above i h l = and_from (part own p i) (leb a i || has reached i) h (or_left (leb a i) (has reached i) (le-leb a i l))

  pub kept-reached : (i : ℕ) → part own p i ≡ true → has reached i ≡ true → kept own reached p a i ≡ true
  kept-reached i h r = and_from (part own p i) (leb a i || has reached i) h (or_right (leb a i) (has reached i) r)

  pub kept-not : (i : ℕ) → i < a → has reached i ≡ false → kept own reached p a i ≡ false
  kept-not i l r = and_right (part own p i) (leb a i || has reached i) (or_from (leb a i) (has reached i) (lt-leb a i l) r)

leb_next : (a j : ℕ) → j ≢ a → leb (a + 1) j ≡ leb a j
leb_next a j ne = ⊎_elim (λ l. lt-leb (a + 1) j (omega arith) ∙ sym (lt-leb a j l)) (λ le. le-leb (a + 1) j (omega arith) ∙ sym (le-leb a j le)) (cases_lt j a)

module _ (own : ℕ → Option ℕ) (reached : List Bool) (p a : ℕ) where
  -- elements other than a are kept from a on where they are kept from the next on
  kept_other : (j : ℕ) → j ≢ a → kept own reached p (a + 1) j ≡ kept own reached p a j
  kept_other j ne = ap (λ b. part own p j && (b || has reached j)) (leb_next a j ne)

  pub kept_take : part own p a ≡ true → (j : ℕ) → plus (kept own reached p (a + 1)) a j ≡ kept own reached p a j
  kept_take h j = ⊎_elim
      (λ e. plus-new (kept own reached p (a + 1)) a j e ∙ sym (kept-above own reached p a j (ap (part own p) e ∙ h) (omega arith)))
      (λ ne. plus-other (kept own reached p (a + 1)) a j ne ∙ kept_other j ne)
      (cases_eq j a)

  pub kept_skip : (part own p a ≡ true → has reached a ≡ false → ⊥) → (j : ℕ) → kept own reached p (a + 1) j ≡ kept own reached p a j
  kept_skip never j = ⊎_elim
      (λ e. ap (kept own reached p (a + 1)) e ∙ here ∙ ap (kept own reached p a) (sym e))
      (λ ne. kept_other j ne)
      (cases_eq j a)
    where
      here : kept own reached p (a + 1) a ≡ kept own reached p a a
      here = ⊎_elim
          (λ t. ⊎_elim
          (λ r. kept-reached own reached p (a + 1) a t r ∙ sym (kept-reached own reached p a a t r))
          (λ f. absurd (never t f))
          (cases_Bool (has reached a)))
          (λ f. and_left (part own p a) (leb (a + 1) a || has reached a) f ∙ sym (and_left (part own p a) (leb a a || has reached a) f))
          (cases_Bool (part own p a))

  -- from the first place on
  pub kept_whole : (j : ℕ) → kept own reached p 0 j ≡ part own p j
  kept_whole j = ⊎_elim (λ t. kept-above own reached p 0 j t (omega arith) ∙ sym t) (λ f. and_left (part own p j) (leb 0 j || has reached j) f ∙ sym f) (cases_Bool (part own p j))

module _ (n : ℕ) (free : List Bool → Type 0) (m : IsMatroid n free) (own : ℕ → Option ℕ) (reached : List Bool) (p x : ℕ) where
  -- the part is what is kept from the first element on
  pub kept_all : free (set_of n (plus (kept own reached p 0) x)) → free (set_of n (plus (part own p) x))
  kept_all w =
      part_of n free m (plus (part own p) x) (plus (kept own reached p 0) x)
      (λ i _ h. ⊎_elim (λ a. plus-old (kept own reached p 0) x i (kept-above own reached p 0 i a (omega arith))) (λ e. plus-new (kept own reached p 0) x i e) (plus-cases (part own p) x i h))
      w

  -- what can take x isn't the part
  pub place_low : (a : ℕ) → (free (set_of n (plus (part own p) x)) → ⊥) → free (set_of n (plus (kept own reached p a) x)) → 1 ≤ a
  place_low a full room = ⊎_elim (λ z. absurd (full (kept_all (subst (λ i. free (set_of n (plus (kept own reached p i) x))) z room)))) (λ ne. omega arith) (cases_eq a 0)

  -- nothing more is kept from a place that gives nothing
  pub room_pass : (from a : ℕ) → from ≡ a + 1 → (part own p a ≡ true → has reached a ≡ false → ⊥) → free (set_of n (plus (kept own reached p from) x)) → free (set_of n (plus (kept own reached p a) x))
  room_pass from a is never room =
      part_of n free m (plus (kept own reached p a) x) (plus (kept own reached p (a + 1)) x)
      (λ i _ h. ⊎_elim (λ b. plus-old (kept own reached p (a + 1)) x i (kept_skip own reached p a never i ∙ b)) (λ e. plus-new (kept own reached p (a + 1)) x i e) (plus-cases (kept own reached p a) x i h))
      (subst (λ i. free (set_of n (plus (kept own reached p i) x))) is room)

  -- the first place from the top at which what is kept can't take x can be left for x
  module _ (a : ℕ) (la : a < n) (lx : x < n) (held : part own p a ≡ true) (fresh : has reached a ≡ false) (apart : part own p x ≡ false) (whole : free (set_of n (part own p))) (full : free (set_of n (plus (kept own reached p a) x)) → ⊥) (room : free (set_of n (plus (kept own reached p (a + 1)) x))) where
    pub place_swaps : free (set_of n (swap (part own p) a x))
    place_swaps =
        let ne : a ≡ x → ⊥ = λ e. both_ways (part own p x) apart (ap (part own p) (sym e) ∙ held) in
        found n free m (part own p) a x la lx held apart whole (plus (kept own reached p (a + 1)) x)
        (plus-false (kept own reached p (a + 1)) x a (kept-not own reached p (a + 1) a (omega arith) fresh) ne)
        (plus-new (kept own reached p (a + 1)) x x refl)
        (λ i _ h. ⊎_elim (λ b. plus-old (part own p) x i (kept-part own reached p (a + 1) i b)) (λ e. plus-new (part own p) x i e) (plus-cases (kept own reached p (a + 1)) x i h))
        room
        (λ w. full (part_of n free m (plus (kept own reached p a) x) (plus (plus (kept own reached p (a + 1)) x) a)
        (λ i _ h. ⊎_elim
        (λ b. ⊎_elim
        (λ e. plus-new (plus (kept own reached p (a + 1)) x) a i e)
        (λ ia. plus-old (plus (kept own reached p (a + 1)) x) a i (plus-old (kept own reached p (a + 1)) x i
        (⊎_elim (λ l. kept-above own reached p (a + 1) i (kept-part own reached p a i b) (omega arith)) (λ r. kept-reached own reached p (a + 1) i (kept-part own reached p a i b) r) (kept-cases own reached p a i b))))
        (cases_eq i a))
        (λ e. plus-old (plus (kept own reached p (a + 1)) x) a i (plus-new (kept own reached p (a + 1)) x i e))
        (plus-cases (kept own reached p a) x i h))
        w))
