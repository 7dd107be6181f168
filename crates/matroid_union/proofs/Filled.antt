-- Sets that grow, filled by tests.
use Rattle.std.proofs.Common.{ℕ, ◌≡◌, ◌≢◌, ◌+◌, ◌<◌, ◌≤◌, Bool, true, false, not, ◌&&◌, leb, ◌⊎◌, inl, inr, List, [], ◌∷◌, ◌++◌, length, get_or, set, replicate, Some, sym, refl, ap, ◌∙◌, arith, ⊎_elim, subst}
use Rattle.std.specs.Prelude.{slice_get}
use Rattle.std.proofs.lemmas.Bool.{cases_eq, cases_lt, lt-leb, le-leb, and_parts}
use Rattle.std.proofs.lemmas.List.{length-set, get_or-set_same, get_or-set_other, length-replicate, get_or-replicate, get_or_append_left, get_or_push, length_push}
use Rattle.std.proofs.lemmas.List.FromFn.{fill_by_all}
use Rattle.std.proofs.lemmas.Option.{slice_get_within, slice_get-get_or, get_or_from_slice_get}
use Rattle.matroid_union.specs.Sets.{plus}
use Rattle.graph_core.specs.Sets.{set_of}
use Rattle.matroid_union.specs.Growing.{IsFilled, AreKept, AreFilled}
use Rattle.matroid_union.proofs.Members.{plus-new, plus-other}
use Rattle.matroid_union.proofs.Sizes.{set-plus}
use Rattle.graph_core.proofs.SetLaws.{has_of, length_of}

and_true : (b : Bool) → (b && true) ≡ b
and_true true = refl
and_true false = refl

and_false : (b : Bool) → (b && false) ≡ false
and_false true = refl
and_false false = refl

-- the elements before place i that pass
abbrev pub front : (ℕ → Bool) → ℕ → ℕ → Bool
front f i = λ j. f j && not (leb i j)

module _ (f : ℕ → Bool) where
  pub front_before : (i j : ℕ) → j < i → front f i j ≡ f j
  front_before i j l = ap (λ b. f j && not b) (lt-leb i j l) ∙ and_true (f j)

  pub front_after : (i j : ℕ) → i ≤ j → front f i j ≡ false
  front_after i j l = ap (λ b. f j && not b) (le-leb i j l) ∙ and_false (f j)

  pub front_within : (i j : ℕ) → front f i j ≡ true → f j ≡ true
  front_within i j h = (and_parts (f j) (not (leb i j)) h).0

  pub front_take : (i j : ℕ) → f i ≡ true → plus (front f i) i j ≡ front f (i + 1) j
  front_take i j h = ⊎_elim
      (λ e. plus-new (front f i) i j e ∙ sym (front_before (i + 1) j (omega arith) ∙ ap f e ∙ h))
      (λ ne. plus-other (front f i) i j ne ∙ ⊎_elim
      (λ l. front_before i j l ∙ sym (front_before (i + 1) j (omega arith)))
      (λ le. front_after i j le ∙ sym (front_after (i + 1) j (omega arith)))
      (cases_lt j i))
      (cases_eq j i)

  pub front_skip : (i j : ℕ) → f i ≡ false → front f i j ≡ front f (i + 1) j
  front_skip i j h = ⊎_elim
      (λ e. front_after i j (omega arith) ∙ sym (front_before (i + 1) j (omega arith) ∙ ap f e ∙ h))
      (λ ne. ⊎_elim
      (λ l. front_before i j l ∙ sym (front_before (i + 1) j (omega arith)))
      (λ le. front_after i j le ∙ sym (front_after (i + 1) j (omega arith)))
      (cases_lt j i))
      (cases_eq j i)

pub set_same : (n : ℕ) (f g : ℕ → Bool) → ((j : ℕ) → j < n → f j ≡ g j) → set_of n f ≡ set_of n g
set_same n f g h = fill_by_all g (set_of n f) n false (length_of n f) (λ j l. has_of n f j l ∙ h j l)

set_none : (n : ℕ) → replicate n false ≡ set_of n (λ i. false)
set_none n = fill_by_all (λ i. false) (replicate n false) n false (length-replicate n false) (λ j l. get_or-replicate n j false false l)

-- what stands at a place after a write
set_cases : {X : Type 0} (xs : List X) (i q : ℕ) (y x : X) → slice_get (set xs i y) q ≡ Some x → ((q ≡ i) × (x ≡ y)) ⊎ ((q ≢ i) × (slice_get xs q ≡ Some x))
set_cases xs i q y x h =
    let within : q < length xs = (let l = slice_get_within (set xs i y) q x h in let e = length-set xs i y in omega arith) in
    let here : get_or (set xs i y) q x ≡ x = get_or_from_slice_get (set xs i y) q x x h in
    ⊎_elim
    (λ e. inl (e, sym here ∙ ap (λ z. get_or (set xs i y) z x) e ∙ get_or-set_same xs i y x (omega arith)))
    (λ ne. inr (ne, slice_get-get_or xs q x within ∙ ap Some (sym (get_or-set_other xs i q y x ne) ∙ here)))
    (cases_eq q i)

-- what stands at a place after an item joined
push_cases : {X : Type 0} (xs : List X) (q : ℕ) (y x : X) → slice_get (xs ++ y ∷ []) q ≡ Some x → (slice_get xs q ≡ Some x) ⊎ (x ≡ y)
push_cases xs q y x h =
    let within : q < length xs + 1 = (let l = slice_get_within (xs ++ y ∷ []) q x h in let e = length_push xs y in omega arith) in
    let here : get_or (xs ++ y ∷ []) q x ≡ x = get_or_from_slice_get (xs ++ y ∷ []) q x x h in
    ⊎_elim
    (λ l. inl (slice_get-get_or xs q x l ∙ ap Some (sym (get_or_append_left xs (y ∷ []) x q l) ∙ here)))
    (λ le. inr (sym here ∙ get_or_push xs y x q (omega arith)))
    (cases_lt q (length xs))

module _ {S : Type 0} (keeps : S → Type 0) (members : S → List Bool) (n : ℕ) where
  pub filled_same : (f g : ℕ → Bool) (s : S) → ((j : ℕ) → j < n → f j ≡ g j) → IsFilled keeps members n f s → IsFilled keeps members n g s
  filled_same f g s h w = record { kept = w.kept; just = w.just ∙ set_same n f g h }

  pub filled_none : (s : S) → keeps s → members s ≡ replicate n false → IsFilled keeps members n (λ i. false) s
  filled_none s k e = record { kept = k; just = e ∙ set_none n }

  -- the elements with one more
  pub filled_more : (f : ℕ → Bool) (x : ℕ) (s : S) → x < n → IsFilled keeps members n f s → set (members s) x true ≡ set_of n (plus f x)
  filled_more f x s l w = ap (λ X. set X x true) w.just ∙ set-plus n f x l

  pub filled_add : (f : ℕ → Bool) (x : ℕ) (s t : S) → x < n → IsFilled keeps members n f s → keeps t → members t ≡ set (members s) x true → IsFilled keeps members n (plus f x) t
  filled_add f x s t l w k e = record { kept = k; just = e ∙ filled_more f x s l w }

  -- the sets before place i are filled, and the one there
  pub filled_next : (f : ℕ → ℕ → Bool) (sets : List S) (i : ℕ) (s : S) → IsFilled keeps members n (f i) s → ((p : ℕ) (t : S) → p < i → slice_get sets p ≡ Some t → IsFilled keeps members n (f p) t) → (p : ℕ) (t : S) → p < i + 1 → slice_get (set sets i s) p ≡ Some t → IsFilled keeps members n (f p) t
  filled_next f sets i s here before p t l h = ⊎_elim
      (λ at. subst (λ q. IsFilled keeps members n (f q) t) (sym at.0) (subst (IsFilled keeps members n (f i)) (sym at.1) here))
      (λ off. let ne = off.0 in before p t (omega arith) off.1)
      (set_cases sets i p s t h)

  pub all_filled : (f : ℕ → ℕ → Bool) (k i : ℕ) (sets : List S) → k ≤ i → AreKept keeps k sets → ((p : ℕ) (t : S) → p < i → slice_get sets p ≡ Some t → IsFilled keeps members n (f p) t) → AreFilled keeps members n k f sets
  all_filled f k i sets l w before = record { many = w.many; each = λ p t h. before p t (let a = slice_get_within sets p t h in let b = w.many in omega arith) h }

  module _ (k : ℕ) where
    pub are_kept : (f : ℕ → ℕ → Bool) (sets : List S) → AreFilled keeps members n k f sets → AreKept keeps k sets
    are_kept f sets w = record { many = w.many; each = λ p s h. (w.each p s h).kept }

    pub are_same : (f g : ℕ → ℕ → Bool) (sets : List S) → ((p j : ℕ) → p < k → j < n → f p j ≡ g p j) → AreFilled keeps members n k f sets → AreFilled keeps members n k g sets
    are_same f g sets e w = record {
      many = w.many;
      each = λ p s h.
          let l : p < k = (let a = slice_get_within sets p s h in let b = w.many in omega arith) in
          filled_same (f p) (g p) s (λ j lj. e p j l lj) (w.each p s h);
    }

    -- one set is changed
    pub are_set : (f g : ℕ → ℕ → Bool) (sets : List S) (p : ℕ) (s : S) → IsFilled keeps members n (g p) s → ((q j : ℕ) → q ≢ p → f q j ≡ g q j) → AreFilled keeps members n k f sets → AreFilled keeps members n k g (set sets p s)
    are_set f g sets p s here others w = record {
      many = length-set sets p s ∙ w.many;
      each = λ q t h. ⊎_elim
          (λ at. subst (λ r. IsFilled keeps members n (g r) t) (sym at.0) (subst (λ r. IsFilled keeps members n (g p) r) (sym at.1) here))
          (λ off. filled_same (f q) (g q) t (λ j _. others q j off.0) (w.each q t off.1))
          (set_cases sets p q s t h);
    }

    pub kept_set : (sets : List S) (p : ℕ) (s : S) → keeps s → AreKept keeps k sets → AreKept keeps k (set sets p s)
    kept_set sets p s here w = record {
      many = length-set sets p s ∙ w.many;
      each = λ q t h. ⊎_elim (λ at. subst keeps (sym at.1) here) (λ off. w.each q t off.1) (set_cases sets p q s t h);
    }

    pub are_more : (f : ℕ → Bool) (sets : List S) (s : S) → IsFilled keeps members n f s → AreFilled keeps members n k (λ p. f) sets → AreFilled keeps members n (k + 1) (λ p. f) (sets ++ s ∷ [])
    are_more f sets s here w = record {
      many = (let e = length_push sets s in let m = w.many in omega arith);
      each = λ q t h. ⊎_elim (λ old. w.each q t old) (λ e. subst (λ r. IsFilled keeps members n f r) (sym e) here) (push_cases sets q s t h);
    }
