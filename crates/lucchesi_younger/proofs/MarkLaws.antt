-- Marks that change one by one.
use Rattle.std.specs.Prelude.{ℕ, zero, suc, ◌≡◌, ◌≢◌, ◌+◌, ◌<◌, ◌≤◌, ◌==◌, ◌⊎◌, Bool, true, false, List, [], ◌∷◌, ◌++◌, Option, Some, None, length, slice_set, slice_index_or, take, filter_map, All, refl}
use Rattle.std.specs.List.{cons_option}
use Rattle.std.proofs.Common.{sym, ap, ◌∙◌, subst, arith, inl, inr, ⊎_elim}
use Rattle.std.proofs.lemmas.Bool.{cases_eq, cases_lt, both_ways}
use Rattle.std.proofs.lemmas.List.{get_or-set_same, get_or-set_other, length-set, get_or_past, take_more, append-nil}
use Rattle.std.proofs.lemmas.List.Elements.{filter_map-append, All-head, All-tail}
use Rattle.std.proofs.lemmas.List.Sums.{sum_by-append}
use Rattle.graph_core.specs.Side.{has}
use Rattle.graph_core.specs.Picked.{occurrences}
use Rattle.graph_core.proofs.Counting.{weight}
use Rattle.lucchesi_younger.specs.Kept.{IsIn}
use Rattle.lucchesi_younger.specs.Marks.{AreListed, AreCleared, AreAdded}
use Rattle.lucchesi_younger.specs.Ways.{taken_by, left_by}
use Rattle.lucchesi_younger.specs.declared.work.By.{By}
use Rattle.lucchesi_younger.specs.declared.work.By.TheVariants.{Taken, Left, Jumped}
use Rattle.lucchesi_younger.proofs.Joins.{occurs-same, occurs-other}

-- the items of an option
abbrev pub items : Option ℕ → List ℕ
items o = cons_option o []

pub occurs-push : (j i : ℕ) (js : List ℕ) → occurrences j (js ++ i ∷ []) ≡ occurrences j js + occurrences j (i ∷ [])
occurs-push j i js = sum_by-append (λ k. weight (k == j)) js (i ∷ [])

in-push : (j i : ℕ) (js : List ℕ) → IsIn (js ++ i ∷ []) j → (i ≡ j) ⊎ IsIn js j
in-push j i js h =
    elim (cases_eq i j) [
      | inl e ↦ inl e
      | inr ne ↦ inr (omega (arith, occurs-push j i js, occurs-other j i [] ne))
    ]

in-old : (j i : ℕ) (js : List ℕ) → IsIn js j → IsIn (js ++ i ∷ []) j
in-old j i js h = omega (arith, occurs-push j i js)

in-new : (j i : ℕ) (js : List ℕ) → i ≡ j → IsIn (js ++ i ∷ []) j
in-new j i js e = omega (arith, occurs-push j i js, occurs-same j i [] e)

module _ (marks : List Bool) (i : ℕ) (b : Bool) where
  set-here : i < length marks → has (slice_set marks i b) i ≡ b
  set-here l = get_or-set_same marks i b false l

  set-other : (j : ℕ) → j ≢ i → has (slice_set marks i b) j ≡ has marks j
  set-other j ne = get_or-set_other marks i j b false ne

pub cleared-push : (js : List ℕ) (old new : List Bool) (i : ℕ) → i < length old → AreCleared js old new → AreCleared (js ++ i ∷ []) old (slice_set new i false)
cleared-push js old new i below a = record {
  long = length-set new i false ∙ a.long;
  none = λ j h is. ⊎_elim
      (λ e. both_ways (has (slice_set new i false) j) (rw e (set-here new i false (omega (arith, a.long)))) is)
      (λ ne. a.none j (⊎_elim (λ e. absurd (ne (sym e))) (λ o. o) (in-push j i js h)) (sym (set-other new i false j ne) ∙ is))
      (cases_eq j i);
  each = λ j is. ⊎_elim
      (λ e. absurd (both_ways (has (slice_set new i false) j) (rw e (set-here new i false (omega (arith, a.long)))) is))
      (λ ne. a.each j (sym (set-other new i false j ne) ∙ is))
      (cases_eq j i);
  kept = λ j is. ⊎_elim
      (λ e. inr (in-new j i js (sym e)))
      (λ ne. ⊎_elim (λ h. inl (set-other new i false j ne ∙ h)) (λ o. inr (in-old j i js o)) (a.kept j is))
      (cases_eq j i);
}

pub added-push : (js : List ℕ) (old new : List Bool) (i : ℕ) → i < length old → AreAdded js old new → AreAdded (js ++ i ∷ []) old (slice_set new i true)
added-push js old new i below a = record {
  long = length-set new i true ∙ a.long;
  all = λ j h. ⊎_elim
      (λ e. rw e (set-here new i true (omega (arith, a.long))))
      (λ ne. set-other new i true j ne ∙ a.all j (⊎_elim (λ e. absurd (ne (sym e))) (λ o. o) (in-push j i js h)))
      (cases_eq j i);
  kept = λ j is. ⊎_elim
      (λ e. rw e (set-here new i true (omega (arith, a.long))))
      (λ ne. set-other new i true j ne ∙ a.kept j is)
      (cases_eq j i);
  each = λ j is. ⊎_elim
      (λ e. inr (in-new j i js (sym e)))
      (λ ne. ⊎_elim (λ h. inl h) (λ o. inr (in-old j i js o)) (a.each j (sym (set-other new i true j ne) ∙ is)))
      (cases_eq j i);
}

-- what a further item adds to a filtered list
module _ {X : Type 0} (f : X → Option ℕ) (xs : List X) (i : ℕ) (d : X) (below : i < length xs) where
  filter_map-next : filter_map f (take (i + 1) xs) ≡ filter_map f (take i xs) ++ items (f (slice_index_or xs i d))
  filter_map-next = ap (filter_map f) (take_more xs i d below) ∙ filter_map-append f (take i xs) (slice_index_or xs i d ∷ [])

  pub next-some : (j : ℕ) → f (slice_index_or xs i d) ≡ Some j → filter_map f (take (i + 1) xs) ≡ filter_map f (take i xs) ++ j ∷ []
  next-some j e = filter_map-next ∙ (λ k. filter_map f (take i xs) ++ items (e k))

  pub next-none : f (slice_index_or xs i d) ≡ None → filter_map f (take (i + 1) xs) ≡ filter_map f (take i xs)
  next-none e = filter_map-next ∙ (λ k. filter_map f (take i xs) ++ items (e k)) ∙ append-nil (filter_map f (take i xs))

-- what holds of each filtered item
pub All-filtered : {X : Type 0} (f : X → Option ℕ) (P : ℕ → Type 0) (xs : List X) → All P (filter_map f xs) → (i : ℕ) (d : X) (j : ℕ) → i < length xs → f (slice_index_or xs i d) ≡ Some j → P j
All-filtered f P [] h i d j below e = absurd (omega arith)
All-filtered f P (y ∷ ys) h zero d j below e = All-head P j (filter_map f ys) (subst (λ o. All P (cons_option o (filter_map f ys))) e h)
All-filtered f P (y ∷ ys) h (suc i) d j below e = All-filtered f P ys (rest (f y) h) i d j (omega arith) e
  where
    rest : (o : Option ℕ) → All P (cons_option o (filter_map f ys)) → All P (filter_map f ys)
    rest None h' = h'
    rest (Some k) h' = All-tail P k (filter_map f ys) h'

-- a step that neither leaves nor takes an arc
pub left_not : (by : By) → ((j : ℕ) → by ≡ Left j → ⊥) → left_by by ≡ None
left_not (Taken j) h = refl
left_not (Left j) h = absurd (h j refl)
left_not Jumped h = refl

pub taken_not : (by : By) → ((j : ℕ) → by ≡ Taken j → ⊥) → taken_by by ≡ None
taken_not (Taken j) h = absurd (h j refl)
taken_not (Left j) h = refl
taken_not Jumped h = refl

-- the numbers below i that are marked are listed
pub record AreListedBelow (marks : List Bool) (i : ℕ) (js : List ℕ) : Type 0 where
  pub below : (j : ℕ) → j < i → occurrences j js ≡ weight (has marks j)
  pub above : (j : ℕ) → i ≤ j → occurrences j js ≡ 0

pub listed-yes : (marks : List Bool) (i : ℕ) (js : List ℕ) → AreListedBelow marks i js → has marks i ≡ true → AreListedBelow marks (i + 1) (js ++ i ∷ [])
listed-yes marks i js a is = record {
  below = λ j l. ⊎_elim
      (λ e. omega (arith, occurs-push j i js, occurs-same j i [] (sym e), a.above j (omega arith), ap weight (ap (has marks) e ∙ is)))
      (λ ne. omega (arith, occurs-push j i js, occurs-other j i [] (λ e. ne (sym e)), a.below j (omega arith)))
      (cases_eq j i);
  above = λ j l. omega (arith, occurs-push j i js, occurs-other j i [] (λ e. omega arith), a.above j (omega arith));
}

pub listed-no : (marks : List Bool) (i : ℕ) (js : List ℕ) → AreListedBelow marks i js → has marks i ≡ false → AreListedBelow marks (i + 1) js
listed-no marks i js a out = record {
  below = λ j l. ⊎_elim
      (λ e. omega (arith, a.above j (omega arith), ap weight (ap (has marks) e ∙ out)))
      (λ ne. a.below j (omega arith))
      (cases_eq j i);
  above = λ j l. a.above j (omega arith);
}

pub listed-all : (marks : List Bool) (js : List ℕ) → AreListedBelow marks (length marks) js → AreListed marks js
listed-all marks js a j =
    ⊎_elim (λ l. a.below j l) (λ past. omega (arith, a.above j past, ap weight (get_or_past marks j false past))) (cases_lt j (length marks))
