-- Sets that grow, filled with what is kept of a part.
use Rattle.std.proofs.Common.{ℕ, ◌≡◌, ◌≢◌, ◌+◌, ◌<◌, ◌&&◌, ◌||◌, leb, length, ◌↔◌, IsTrue, Bool, true, false, List, set, replicate, Option, Some, None, refl, sym, ◌∙◌, ap, arith, ⊎_elim, subst}
use Rattle.std.specs.Prelude.{slice_get}
use Rattle.std.proofs.lemmas.Bool.{cases_eq, and_left}
use Rattle.std.proofs.lemmas.List.{get_or-set_same, get_or-set_other}
use Rattle.graph_core.specs.Side.{has}
use Rattle.matroid_union.specs.Matroid.{IsMatroid}
use Rattle.matroid_union.specs.Sets.{plus}
use Rattle.graph_core.specs.Sets.{set_of}
use Rattle.matroid_union.specs.Growing.{IsFilled, AreFilled}
use Rattle.matroid_union.specs.Parts.{part, kept, moved}
use Rattle.matroid_union.proofs.Members.{plus-cases, plus-new, plus-other}
use Rattle.matroid_union.proofs.Exchanges.{part_of}
use Rattle.matroid_union.proofs.Chain.{part_to, part_from, minus_same, holds_none, holds_is, holds_other}
use Rattle.matroid_union.proofs.Kept.{kept-part, kept-reached, kept_take, kept_skip, kept_whole}
use Rattle.matroid_union.proofs.Filled.{front, front_before, front_after, front_within, front_take, front_skip, filled_none, filled_same, filled_more, filled_add, are_same, are_set}

module _ (n : ℕ) (free : List Bool → Type 0) (m : IsMatroid n free) {S : Type 0} (keeps : S → Type 0) (members : S → List Bool) where
  -- a set takes x where x beside its elements is free
  pub takes_plus : (f : ℕ → Bool) (x : ℕ) (s : S) (b : Bool) → x < n → IsFilled keeps members n f s → IsTrue b ↔ free (set (members s) x true) → IsTrue b ↔ free (set_of n (plus f x))
  takes_plus f x s b l w h = subst (λ X. IsTrue b ↔ free X) (filled_more keeps members n f x s l w) h

  -- a set within a free one takes an element of that
  pub room_within : (f g : ℕ → Bool) (x : ℕ) (s : S) → x < n → ((j : ℕ) → f j ≡ true → g j ≡ true) → g x ≡ true → free (set_of n g) → IsFilled keeps members n f s → free (set (members s) x true)
  room_within f g x s l sub here whole w =
      subst free (sym (filled_more keeps members n f x s l w))
      (part_of n free m (plus f x) g (λ j _ h. ⊎_elim (λ a. sub j a) (λ e. ap g e ∙ here) (plus-cases f x j h)) whole)

  module _ (own : ℕ → Option ℕ) (reached : List Bool) (number from : ℕ) where
    -- a set that is filled from the first element on
    pub front_empty : (s : S) → keeps s → members s ≡ replicate n false → IsFilled keeps members n (front (kept own reached number from) 0) s
    front_empty s k e = filled_same keeps members n (λ i. false) (front (kept own reached number from) 0) s (λ j _. sym (front_after (kept own reached number from) 0 j (omega arith))) (filled_none keeps members n s k e)

    pub front_room : (i : ℕ) (s : S) (b : Bool) → i < n → b ≡ kept own reached number from i → b ≡ true → free (set_of n (part own number)) → IsFilled keeps members n (front (kept own reached number from) i) s → free (set (members s) i true)
    front_room i s b l answer h = room_within (front (kept own reached number from) i) (part own number) i s l (λ j t. kept-part own reached number from j (front_within (kept own reached number from) i j t)) (kept-part own reached number from i (sym answer ∙ h))

    pub front_add : (i : ℕ) (s t u : S) (b : Bool) → u ≡ t → i < n → b ≡ kept own reached number from i → b ≡ true → IsFilled keeps members n (front (kept own reached number from) i) s → keeps t → members t ≡ set (members s) i true → IsFilled keeps members n (front (kept own reached number from) (i + 1)) u
    front_add i s t u b is l answer h w k e =
        subst (IsFilled keeps members n (front (kept own reached number from) (i + 1))) (sym is)
        (filled_same keeps members n (plus (front (kept own reached number from) i) i) (front (kept own reached number from) (i + 1)) t (λ j _. front_take (kept own reached number from) i j (sym answer ∙ h))
        (filled_add keeps members n (front (kept own reached number from) i) i s t l w k e))

    pub front_pass : (i : ℕ) (s u : S) (b : Bool) → u ≡ s → b ≡ kept own reached number from i → b ≡ false → IsFilled keeps members n (front (kept own reached number from) i) s → IsFilled keeps members n (front (kept own reached number from) (i + 1)) u
    front_pass i s u b is answer h w =
        subst (IsFilled keeps members n (front (kept own reached number from) (i + 1))) (sym is)
        (filled_same keeps members n (front (kept own reached number from) i) (front (kept own reached number from) (i + 1)) s (λ j _. front_skip (kept own reached number from) i j (sym answer ∙ h)) w)

    pub front_all : (s : S) → IsFilled keeps members n (front (kept own reached number from) n) s → IsFilled keeps members n (kept own reached number from) s
    front_all s = filled_same keeps members n (front (kept own reached number from) n) (kept own reached number from) s (λ j l. front_before (kept own reached number from) n j l)

    -- an element of the part has room beside what is kept of it
    pub kept_room : (x : ℕ) (s : S) → x < n → part own number x ≡ true → free (set_of n (part own number)) → IsFilled keeps members n (kept own reached number from) s → free (set (members s) x true)
    kept_room x s l h = room_within (kept own reached number from) (part own number) x s l (λ j t. kept-part own reached number from j t) h

    -- a place further down
    module _ (a : ℕ) (is : from ≡ a + 1) where
      here : (s : S) → IsFilled keeps members n (kept own reached number from) s → IsFilled keeps members n (kept own reached number (a + 1)) s
      here s = subst (λ i. IsFilled keeps members n (kept own reached number i) s) is

      pub down_add : (s t : S) → a < n → part own number a ≡ true → IsFilled keeps members n (kept own reached number from) s → keeps t → members t ≡ set (members s) a true → IsFilled keeps members n (kept own reached number a) t
      down_add s t l h w k e =
          filled_same keeps members n (plus (kept own reached number (a + 1)) a) (kept own reached number a) t (λ j _. kept_take own reached number a h j)
          (filled_add keeps members n (kept own reached number (a + 1)) a s t l (here s w) k e)

      pub down_pass : (s : S) → (part own number a ≡ true → has reached a ≡ false → ⊥) → IsFilled keeps members n (kept own reached number from) s → IsFilled keeps members n (kept own reached number a) s
      down_pass s never w = filled_same keeps members n (kept own reached number (a + 1)) (kept own reached number a) s (λ j _. kept_skip own reached number a never j) (here s w)

    -- all parts' sets, filled from the first element on
    pub fronts_none : (k : ℕ) (sets : List S) → AreFilled keeps members n k (λ p i. false) sets → AreFilled keeps members n k (λ p. front (kept own reached p from) 0) sets
    fronts_none k sets = are_same keeps members n k (λ p i. false) (λ p. front (kept own reached p from) 0) sets (λ p j _ _. sym (front_after (kept own reached p from) 0 j (omega arith)))

    pub fronts_add : (k i : ℕ) (sets sets' : List S) (s t : S) (b : Bool) → sets' ≡ set sets number t → i < n → own i ≡ Some number → b ≡ kept own reached number from i → b ≡ true → slice_get sets number ≡ Some s → keeps t → members t ≡ set (members s) i true → AreFilled keeps members n k (λ p. front (kept own reached p from) i) sets → AreFilled keeps members n k (λ p. front (kept own reached p from) (i + 1)) sets'
    fronts_add k i sets sets' s t b new l is answer h here kept_t added w =
        subst (AreFilled keeps members n k (λ p. front (kept own reached p from) (i + 1))) (sym new)
        (are_set keeps members n k (λ p. front (kept own reached p from) i) (λ p. front (kept own reached p from) (i + 1)) sets number t
        (front_add i s t t b refl l answer h (w.each number s here) kept_t added)
        (λ q j ne. front_skip (kept own reached q from) i j (and_left (part own q i) (leb from i || has reached i) (holds_other (own i) number q is (λ e. ne (sym e)))))
        w)

    fronts_pass : (k i : ℕ) (sets sets' : List S) → sets' ≡ sets → ((p : ℕ) → kept own reached p from i ≡ false) → AreFilled keeps members n k (λ p. front (kept own reached p from) i) sets → AreFilled keeps members n k (λ p. front (kept own reached p from) (i + 1)) sets'
    fronts_pass k i sets sets' new out w =
        subst (AreFilled keeps members n k (λ p. front (kept own reached p from) (i + 1))) (sym new)
        (are_same keeps members n k (λ p. front (kept own reached p from) i) (λ p. front (kept own reached p from) (i + 1)) sets (λ p j _ _. front_skip (kept own reached p from) i j (out p)) w)

    pub fronts_spare : (k i : ℕ) (sets sets' : List S) → sets' ≡ sets → own i ≡ None → AreFilled keeps members n k (λ p. front (kept own reached p from) i) sets → AreFilled keeps members n k (λ p. front (kept own reached p from) (i + 1)) sets'
    fronts_spare k i sets sets' new none = fronts_pass k i sets sets' new (λ p. and_left (part own p i) (leb from i || has reached i) (holds_none (own i) p none))

    pub fronts_left : (k i : ℕ) (sets sets' : List S) (b : Bool) → sets' ≡ sets → own i ≡ Some number → b ≡ kept own reached number from i → b ≡ false → AreFilled keeps members n k (λ p. front (kept own reached p from) i) sets → AreFilled keeps members n k (λ p. front (kept own reached p from) (i + 1)) sets'
    fronts_left k i sets sets' b new is answer out = fronts_pass k i sets sets' new (λ p. ⊎_elim
        (λ e. ap (λ q. kept own reached q from i) e ∙ sym answer ∙ out)
        (λ ne. and_left (part own p i) (leb from i || has reached i) (holds_other (own i) number p is (λ e. ne (sym e))))
        (cases_eq p number))

    pub fronts_all : (k : ℕ) (sets : List S) → AreFilled keeps members n k (λ p. front (kept own reached p from) n) sets → AreFilled keeps members n k (λ p. kept own reached p from) sets
    fronts_all k sets = are_same keeps members n k (λ p. front (kept own reached p from) n) (λ p. kept own reached p from) sets (λ p j _ l. front_before (kept own reached p from) n j l)

  pub whole_parts : (k : ℕ) (own : ℕ → Option ℕ) (reached : List Bool) (sets : List S) → AreFilled keeps members n k (λ p. kept own reached p 0) sets → AreFilled keeps members n k (part own) sets
  whole_parts k own reached sets = are_same keeps members n k (λ p. kept own reached p 0) (part own) sets (λ p j _ _. kept_whole own reached p 0 j)

  -- an element that no part had joins a part, and its set
  pub whole_more : (k : ℕ) (own : ℕ → Option ℕ) (e to : ℕ) (sets : List S) (s t : S) → e < n → own e ≡ None → AreFilled keeps members n k (part own) sets → slice_get sets to ≡ Some s → keeps t → members t ≡ set (members s) e true → AreFilled keeps members n k (part (moved own e to)) (set sets to t)
  whole_more k own e to sets s t l none w h kept added =
      are_set keeps members n k (part own) (part (moved own e to)) sets to t
      (subst (λ f. IsFilled keeps members n f t) (sym (part_to own e to)) (filled_add keeps members n (part own to) e s t l (w.each to s h) kept added))
      (λ q j ne. ap (λ f. f j) (sym (part_from own e to q ne ∙ minus_same (part own q) e (holds_none (own e) q none))))
      w

  -- an element of part p is reached, and joins its set
  module _ (k : ℕ) (own : ℕ → Option ℕ) (reached reached' : List Bool) (y p : ℕ) (sets : List S) (s t : S) (l : y < n) (long : length reached ≡ n) (held : part own p y ≡ true) (marked : reached' ≡ set reached y true) (here : slice_get sets p ≡ Some s) (kept_t : keeps t) (added : members t ≡ set (members s) y true) where
    mark_other : (q j : ℕ) → j ≢ y → kept own reached q n j ≡ kept own reached' q n j
    mark_other q j ne = ap (λ b. part own q j && (leb n j || b)) (sym (ap (λ r. has r j) marked ∙ get_or-set_other reached y j true false ne))

    mark_here : (j : ℕ) → plus (kept own reached p n) y j ≡ kept own reached' p n j
    mark_here j = ⊎_elim
        (λ e. plus-new (kept own reached p n) y j e ∙ sym (kept-reached own reached' p n j (ap (part own p) e ∙ held) (ap (has reached') e ∙ ap (λ r. has r y) marked ∙ get_or-set_same reached y true false (omega arith))))
        (λ ne. plus-other (kept own reached p n) y j ne ∙ mark_other p j ne)
        (cases_eq j y)

    mark_apart : (q j : ℕ) → q ≢ p → kept own reached q n j ≡ kept own reached' q n j
    mark_apart q j ne = ⊎_elim
        (λ e.
        let out : part own q j ≡ false = ap (part own q) e ∙ holds_other (own y) p q (holds_is (own y) p held) (λ same. ne (sym same)) in
        and_left (part own q j) (leb n j || has reached j) out ∙ sym (and_left (part own q j) (leb n j || has reached' j) out))
        (λ off. mark_other q j off)
        (cases_eq j y)

    pub met_more : AreFilled keeps members n k (λ q. kept own reached q n) sets → AreFilled keeps members n k (λ q. kept own reached' q n) (set sets p t)
    met_more w =
        are_set keeps members n k (λ q. kept own reached q n) (λ q. kept own reached' q n) sets p t
        (filled_same keeps members n (plus (kept own reached p n) y) (kept own reached' p n) t (λ j _. mark_here j) (filled_add keeps members n (kept own reached p n) y s t l (w.each p s here) kept_t added))
        mark_apart w
