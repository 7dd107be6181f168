-- Parts as rows.
use Rattle.std.proofs.Common.{ℕ, zero, suc, ◌≡◌, ◌+◌, ◌<◌, ◌≤◌, Bool, true, false, cond, eqb, ◌&&◌, ◌⊎◌, inl, inr, List, [], ◌∷◌, ◌++◌, length, get_or, set, map, take, drop, replicate, Option, Some, None, sym, refl, ap, ◌∙◌, arith, ⊎_elim, zero-add}
use Rattle.std.specs.Prelude.{slice_get}
use Rattle.std.specs.List.{filter, range_with_len, concat}
use Rattle.std.proofs.lemmas.Bool.{cases_eq, cases_lt, cases_Bool, both_ways, eqb-true, eq-eqb, ne_eqb, or_cases, or_left, or_right, and_from, false_from_ne_true}
use Rattle.std.proofs.lemmas.List.FromFn.{length-map-range_with_len, get_or-map-range_with_len, fill_by_all, filter_of_map_range_with_len_more}
use Rattle.std.proofs.lemmas.List.Sums.{sum_by-cons, sum_by-append}
use Rattle.graph_core.specs.Side.{has}
use Rattle.matroid_union.specs.Matroid.{IsMatroid}
use Rattle.matroid_union.specs.Sets.{plus}
use Rattle.graph_core.specs.Sets.{set_of}
use Rattle.matroid_union.specs.Parts.{part, kept, members, rows_of, IsPacking}
use Rattle.matroid_union.specs.Search.{AreDead}
use Rattle.graph_core.specs.Picked.{occurrences}
use Rattle.matroid_union.specs.Union.{names, row, IsUnion}
use Rattle.matroid_union.proofs.Members.{plus-old, plus-new, plus-cases}
use Rattle.matroid_union.proofs.Exchanges.{part_of}
use Rattle.matroid_union.proofs.Kept.{kept-part, kept-cases}
use Rattle.matroid_union.proofs.Chain.{holds_is, holds_same, holds_other, holds_none}
use Rattle.graph_core.proofs.SetLaws.{has_of, length_of}
use Rattle.std.proofs.lemmas.Option.{get_or_from_slice_get}
use Rattle.std.proofs.lemmas.List.{length-set, get_or-set_same, get_or-set_other, length-replicate, get_or-replicate, get_or_past, map-id, append-nil, drop_all, take_all}

-- what a filter of a range names
record Named (f : ℕ → Bool) (a n e : ℕ) : Type 0 where
  passes : f e ≡ true
  low : a ≤ e
  high : e < a + n

module _ (f : ℕ → Bool) (e : ℕ) where
  named : (a n : ℕ) → names (filter f (range_with_len a n)) e ≡ true → Named f a n e
  named a zero h = absurd (both_ways false refl h)
  named a (suc n) h =
      (elim (f a) as (λ b. f a ≡ b → names (cond b (a ∷ filter f (range_with_len (a + 1) n)) (filter f (range_with_len (a + 1) n))) e ≡ true → Named f a (suc n) e) [
        | true ↦ (λ fa g. ⊎_elim
            (λ same. let ae : a ≡ e = eqb-true a e same in record { passes = ap f (sym ae) ∙ fa; low = omega arith; high = omega arith })
            (λ later. let w = named (a + 1) n later in let l = w.low in let u = w.high in record { passes = w.passes; low = omega arith; high = omega arith })
            (or_cases (eqb a e) (names (filter f (range_with_len (a + 1) n)) e) g))
        | false ↦ (λ fa g. let w = named (a + 1) n g in let l = w.low in let u = w.high in record { passes = w.passes; low = omega arith; high = omega arith })
      ]) refl h

  names_it : (a n : ℕ) → f e ≡ true → a ≤ e → e < a + n → names (filter f (range_with_len a n)) e ≡ true
  names_it a zero h l u = absurd (omega arith)
  names_it a (suc n) h l u =
      ⊎_elim
      (λ same.
      let fa : f a ≡ true = ap f same ∙ h in
      rw fa (or_left (eqb a e) (names (filter f (range_with_len (a + 1) n)) e) (eq-eqb a e same)))
      (λ ne.
      let rest : names (filter f (range_with_len (a + 1) n)) e ≡ true = names_it (a + 1) n h (omega arith) (omega arith) in
      elim (f a) as (λ b. names (cond b (a ∷ filter f (range_with_len (a + 1) n)) (filter f (range_with_len (a + 1) n))) e ≡ true)
      [ true ↦ or_right (eqb a e) (names (filter f (range_with_len (a + 1) n)) e) rest | false ↦ rest ])
      (cases_eq a e)

  -- how often it stands there
  abbrev weight : ℕ → ℕ
  weight x = cond (eqb x e) 1 0

  occurs_cons : (x : ℕ) (xs : List ℕ) → occurrences e (x ∷ xs) ≡ cond (eqb x e) 1 0 + occurrences e xs
  occurs_cons x xs = sum_by-cons (λ y. cond (eqb y e) 1 0) x xs

  occurs_not : (a n : ℕ) → (f e ≡ false) ⊎ (e < a) → occurrences e (filter f (range_with_len a n)) ≡ 0
  occurs_not a zero h = refl
  occurs_not a (suc n) h =
      let rest : occurrences e (filter f (range_with_len (a + 1) n)) ≡ 0 = occurs_not (a + 1) n (⊎_elim (λ x. inl x) (λ x. inr (omega arith)) h) in
      (elim (f a) as (λ b. f a ≡ b → occurrences e (cond b (a ∷ filter f (range_with_len (a + 1) n)) (filter f (range_with_len (a + 1) n))) ≡ 0) [
        | true ↦ (λ fa.
            let ne : a ≡ e → ⊥ = λ same. ⊎_elim (λ x. both_ways (f e) x (ap f (sym same) ∙ fa)) (λ x. omega arith) h in
            occurs_cons a (filter f (range_with_len (a + 1) n)) ∙ ap (λ t. cond t 1 0 + occurrences e (filter f (range_with_len (a + 1) n))) (ne_eqb a e ne) ∙ omega arith)
        | false ↦ (λ fa. rest)
      ]) refl

  occurs_once : (a n : ℕ) → occurrences e (filter f (range_with_len a n)) ≤ 1
  occurs_once a zero = omega arith
  occurs_once a (suc n) =
      let rest : occurrences e (filter f (range_with_len (a + 1) n)) ≤ 1 = occurs_once (a + 1) n in
      let c = occurs_cons a (filter f (range_with_len (a + 1) n)) in
      elim (f a) as (λ b. occurrences e (cond b (a ∷ filter f (range_with_len (a + 1) n)) (filter f (range_with_len (a + 1) n))) ≤ 1) [
        | true ↦ ⊎_elim
            (λ same. let none = occurs_not (a + 1) n (inr (omega arith)) in let one : weight a ≤ 1 = at_most (eqb a e) in omega arith)
            (λ ne. let zero_here : weight a ≡ 0 = ap (λ t. cond t 1 0) (ne_eqb a e ne) in omega arith)
            (cases_eq a e)
        | false ↦ rest
      ]
    where
      at_most : (b : Bool) → cond b 1 0 ≤ 1
      at_most true = omega arith
      at_most false = omega arith

module _ (n : ℕ) (own : ℕ → Option ℕ) (e : ℕ) where
  rows_not : (a k : ℕ) → ((p : ℕ) → a ≤ p → part own p e ≡ false) → occurrences e (concat (map (members n own) (range_with_len a k))) ≡ 0
  rows_not a zero h = refl
  rows_not a (suc k) h =
      let rest = rows_not (a + 1) k (λ p l. h p (omega arith)) in
      let here = occurs_not (part own a) e 0 n (inl (h a (omega arith))) in
      sum_by-append (λ y. cond (eqb y e) 1 0) (members n own a) (concat (map (members n own) (range_with_len (a + 1) k))) ∙ omega arith

  rows_once : (a k : ℕ) → occurrences e (concat (map (members n own) (range_with_len a k))) ≤ 1
  rows_once a zero = omega arith
  rows_once a (suc k) =
      let both : occurrences e (members n own a ++ concat (map (members n own) (range_with_len (a + 1) k))) ≡ occurrences e (members n own a) + occurrences e (concat (map (members n own) (range_with_len (a + 1) k))) = sum_by-append (λ y. cond (eqb y e) 1 0) (members n own a) (concat (map (members n own) (range_with_len (a + 1) k))) in
      ⊎_elim
      (λ yes_a.
      let here = occurs_once (part own a) e 0 n in
      let rest = rows_not (a + 1) k (λ p l. holds_other (own e) a p (holds_is (own e) a yes_a) (λ same. absurd (omega arith))) in
      omega arith)
      (λ no_a. let here = occurs_not (part own a) e 0 n (inl no_a) in let rest = rows_once (a + 1) k in omega arith)
      (cases_Bool (part own a e))

module _ (n : ℕ) (free : List Bool → Type 0) (m : IsMatroid n free) (k : ℕ) (own : ℕ → Option ℕ) (reached : List Bool) (pack : IsPacking n free k own) (dead : AreDead n free k own reached) (rest : (e : ℕ) → e < n → own e ≡ None → has reached e ≡ true) where
  row_is : (p : ℕ) → p < k → row (rows_of n own k) p ≡ members n own p
  row_is p l = get_or-map-range_with_len (members n own) 0 k p p [] l (omega arith)

  in_row : (p e : ℕ) → p < k → names (row (rows_of n own k) p) e ≡ true → Named (part own p) 0 n e
  in_row p e l h = named (part own p) e 0 n (ap (λ r. names r e) (sym (row_is p l)) ∙ h)

  to_row : (p e : ℕ) → p < k → e < n → part own p e ≡ true → names (row (rows_of n own k) p) e ≡ true
  to_row p e l le h = ap (λ r. names r e) (row_is p l) ∙ names_it (part own p) e 0 n h (omega arith) (omega arith)

  not_in_row : (p e : ℕ) → p < k → e < n → names (row (rows_of n own k) p) e ≡ false → part own p e ≡ false
  not_in_row p e l le h = false_from_ne_true (part own p e) (λ t. both_ways (names (row (rows_of n own k) p) e) h (to_row p e l le t))

  pub union_done : IsUnion n free k (rows_of n own k) reached
  union_done = record {
    many = length-map-range_with_len (members n own) 0 k;
    inside = λ p e l h. let w = in_row p e l h in let u = w.high in omega arith;
    distinct = λ e. rows_once n own e 0 k;
    parts = λ p l. part_of n free m (names (row (rows_of n own k) p)) (part own p) (λ e _ h. (in_row p e l h).passes) (pack.parts p l);
    long = dead.long;
    rest = λ e l out.
        (elim (own e) as (λ o. own e ≡ o → has reached e ≡ true) [
          | None ↦ (λ none. rest e l none)
          | Some p ↦ (λ some.
              let lp : p < k = pack.below e p some in
              absurd (both_ways (names (row (rows_of n own k) p) e) (out p lp) (to_row p e lp l (holds_same (own e) p some))))
        ]) refl;
    spans = λ p e lp le out r w.
        dead.full e r p lp (not_in_row p e lp le out)
        (part_of n free m (plus (kept own reached p n) e) (plus (λ i. names (row (rows_of n own k) p) i && has reached i) e)
        (λ i li h. ⊎_elim
        (λ a. plus-old (λ i. names (row (rows_of n own k) p) i && has reached i) e i
        (and_from (names (row (rows_of n own k) p) i) (has reached i) (to_row p i lp li (kept-part own reached p n i a))
        (⊎_elim (λ over. absurd (omega arith)) (λ t. t) (kept-cases own reached p n i a))))
        (λ same. plus-new (λ i. names (row (rows_of n own k) p) i && has reached i) e i same)
        (plus-cases (kept own reached p n) e i h))
        w);
  }

-- no part has an element
pub pack_none : (n : ℕ) (free : List Bool → Type 0) → IsMatroid n free → (k : ℕ) (own : ℕ → Option ℕ) → ((i : ℕ) → own i ≡ None) → IsPacking n free k own
pack_none n free m k own none = record {
  parts = λ p l. m.part (set_of n (part own p)) (replicate n false) (length_of n (part own p)) (length-replicate n false)
      (λ e le h. absurd (both_ways (part own p e) (holds_none (own e) p (none e)) (sym (has_of n (part own p) e le) ∙ h))) m.empty;
  below = λ i p h. let e = none i in absurd cc;
}

-- one element more to look at
pub members_more : (own : ℕ → Option ℕ) (p i : ℕ) → members (i + 1) own p ≡ members i own p ++ cond (part own p i) (i ∷ []) []
members_more own p i =
    ap (filter (part own p)) (sym (map-id (range_with_len 0 (i + 1))))
    ∙ filter_of_map_range_with_len_more (part own p) (λ x. x) 0 i i (zero-add i)
    ∙ ap (λ r. filter (part own p) r ++ cond (part own p i) (i ∷ []) []) (map-id (range_with_len 0 i))

pub members_with : (own : ℕ → Option ℕ) (p i : ℕ) → part own p i ≡ true → members (i + 1) own p ≡ members i own p ++ i ∷ []
members_with own p i h = members_more own p i ∙ ap (λ b. members i own p ++ cond b (i ∷ []) []) h

pub members_without : (own : ℕ → Option ℕ) (p i : ℕ) → part own p i ≡ false → members (i + 1) own p ≡ members i own p
members_without own p i h = members_more own p i ∙ ap (λ b. members i own p ++ cond b (i ∷ []) []) h ∙ append-nil (members i own p)

pub length-rows : (n : ℕ) (own : ℕ → Option ℕ) (k : ℕ) → length (rows_of n own k) ≡ k
length-rows n own k = length-map-range_with_len (members n own) 0 k

-- no element looked at
pub rows_none : (own : ℕ → Option ℕ) (k : ℕ) → replicate k [] ≡ rows_of 0 own k
rows_none own k = fill_by_all (members 0 own) (replicate k []) k [] (length-replicate k []) (λ q l. get_or-replicate k q [] [] l)

-- an element that no part has changes no row
pub rows_same : (own : ℕ → Option ℕ) (i k : ℕ) → own i ≡ None → rows_of i own k ≡ rows_of (i + 1) own k
rows_same own i k none = λ t. map (λ q. sym (members_without own q i (holds_none (own i) q none)) t) (range_with_len 0 k)

-- an element joins its row
pub rows_push : (own : ℕ → Option ℕ) (i k p : ℕ) (old new : List ℕ) → own i ≡ Some p → p < k → slice_get (rows_of i own k) p ≡ Some old → new ≡ old ++ i ∷ [] → set (rows_of i own k) p new ≡ rows_of (i + 1) own k
rows_push own i k p old new is l was pushed =
    let long : length (rows_of i own k) ≡ k = length-rows i own k in
    let short : p < length (rows_of i own k) = rw long l in
    let at : (q : ℕ) → q < k → get_or (rows_of i own k) q [] ≡ members i own q = λ q lq. get_or-map-range_with_len (members i own) 0 k q q [] lq (zero-add q) in
    let old_is : old ≡ members i own p = sym (get_or_from_slice_get (rows_of i own k) p old [] was) ∙ at p l in
    fill_by_all (members (i + 1) own) (set (rows_of i own k) p new) k [] (length-set (rows_of i own k) p new ∙ long)
    (λ q lq. ⊎_elim
    (λ e. ap (λ x. get_or (set (rows_of i own k) p new) x []) e ∙ get_or-set_same (rows_of i own k) p new [] short ∙ pushed ∙ ap (λ r. r ++ i ∷ []) old_is
    ∙ sym (members_with own p i (holds_same (own i) p is)) ∙ ap (members (i + 1) own) (sym e))
    (λ ne. get_or-set_other (rows_of i own k) p q new [] ne ∙ at q lq ∙ sym (members_without own q i (holds_other (own i) p q is (λ e. ne (sym e)))))
    (cases_eq q p))

pub none_of : (n i : ℕ) → get_or {A = Option ℕ} (replicate n None) i None ≡ None
none_of n i =
    let nobody : List (Option ℕ) = replicate n None in
    let long : length nobody ≡ n = length-replicate n None in
    ⊎_elim (λ l. get_or-replicate n i None None l) (λ l. get_or_past nobody i None (omega arith)) (cases_lt i n)

-- a slice that was written to is the whole list
pub whole_slice : {X : Type 0} (len : ℕ) (new items : List X) → len ≡ length items → length new ≡ length items → take len (new ++ drop (length new) items) ≡ new
whole_slice len new items e f =
    ap (λ r. take len (new ++ r)) (drop_all (length new) items (omega arith)) ∙ ap (take len) (append-nil new) ∙ take_all len new (omega arith)
