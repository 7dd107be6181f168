-- One step of an exchange along a path.
use Rattle.std.proofs.Common.{ℕ, suc, ◌≡◌, ◌≢◌, ◌<◌, ◌≤◌, Bool, true, false, not, cond, eqb, ◌&&◌, ◌||◌, List, length, get_or, set, Option, Some, None, sym, refl, ap, ◌∙◌, arith, ⊎_elim, subst}
use Rattle.std.proofs.lemmas.Bool.{cases_eq, both_ways, eq-eqb, ne_eqb, eqb-true}
use Rattle.std.proofs.lemmas.List.{get_or-set_same, get_or-set_other}
use Rattle.std.proofs.lemmas.List.Sums.{sum_by-set}
use Rattle.std.specs.Option.{is_none}
use Rattle.graph_core.specs.Side.{has}
use Rattle.matroid_union.specs.Matroid.{IsMatroid}
use Rattle.matroid_union.specs.Sets.{plus, minus, swap}
use Rattle.graph_core.specs.Sets.{set_of}
use Rattle.matroid_union.specs.Parts.{holds, part, own_of, spare, moved, IsPacking, Entered, Tree, End}
use Rattle.matroid_union.proofs.Members.{plus-old, plus-new, plus-cases, minus-out, minus-parts, swap-old, swap-new, swap-cases}
use Rattle.matroid_union.proofs.Exchanges.{part_of, swap_joined, swap_left}

or_true : (b : Bool) → (b || true) ≡ true
or_true true = refl
or_true false = refl

or_false : (b : Bool) → (b || false) ≡ b
or_false true = refl
or_false false = refl

and_true : (b : Bool) → (b && true) ≡ b
and_true true = refl
and_true false = refl

and_false : (b : Bool) → (b && false) ≡ false
and_false true = refl
and_false false = refl

pub holds_same : (o : Option ℕ) (p : ℕ) → o ≡ Some p → holds o p ≡ true
holds_same o p e = rw e (eq-eqb p p refl)

pub holds_other : (o : Option ℕ) (p r : ℕ) → o ≡ Some p → p ≢ r → holds o r ≡ false
holds_other o p r e ne = rw e (ne_eqb p r ne)

pub holds_none : (o : Option ℕ) (r : ℕ) → o ≡ None → holds o r ≡ false
holds_none o r e = rw e refl

pub holds_is : (o : Option ℕ) (p : ℕ) → holds o p ≡ true → o ≡ Some p
holds_is None p h = absurd (both_ways false refl h)
holds_is (Some q) p h = ap Some (eqb-true q p h)

module _ (own : ℕ → Option ℕ) (e to : ℕ) where
  moved_at : (k : ℕ) → k ≡ e → moved own e to k ≡ Some to
  moved_at k h = rw (eq-eqb k e h) refl

  moved_off : (k : ℕ) → k ≢ e → moved own e to k ≡ own k
  moved_off k h = rw (ne_eqb k e h) refl

  pub part_to : part (moved own e to) to ≡ plus (part own to) e
  part_to = λ t k. at k (eqb k e) t
    where
      at : (k : ℕ) (b : Bool) → holds (cond b (Some to) (own k)) to ≡ (holds (own k) to || b)
      at k true = eq-eqb to to refl ∙ sym (or_true (holds (own k) to))
      at k false = sym (or_false (holds (own k) to))

  pub part_from : (r : ℕ) → r ≢ to → part (moved own e to) r ≡ minus (part own r) e
  part_from r ne = λ t k. at k (eqb k e) t
    where
      at : (k : ℕ) (b : Bool) → holds (cond b (Some to) (own k)) r ≡ (holds (own k) r && not b)
      at k true = ne_eqb to r (λ h. ne (sym h)) ∙ sym (and_false (holds (own k) r))
      at k false = sym (and_true (holds (own k) r))

pub minus_same : (f : ℕ → Bool) (e : ℕ) → f e ≡ false → minus f e ≡ f
minus_same f e h = λ t k. at k t
  where
    at : (k : ℕ) → minus f e k ≡ f k
    at k = ⊎_elim
        (λ same. let fk : f k ≡ false = ap f same ∙ h in minus-out f e k fk ∙ sym fk)
        (λ ne. ap (λ c. f k && not c) (ne_eqb k e ne) ∙ and_true (f k))
        (cases_eq k e)

-- what holds of each part after a move
by_part : (own : ℕ → Option ℕ) (e to r : ℕ) (Q : (ℕ → Bool) → Type 0) → (r ≡ to → Q (plus (part own to) e)) → (r ≢ to → Q (minus (part own r) e)) → Q (part (moved own e to) r)
by_part own e to r Q gains loses =
    ⊎_elim
    (λ same. subst (λ s. Q (part (moved own e to) s)) (sym same) (subst Q (sym (part_to own e to)) (gains same)))
    (λ ne. subst Q (sym (part_from own e to r ne)) (loses ne))
    (cases_eq r to)

-- an element joins a part
pub pack_take : (n : ℕ) (free : List Bool → Type 0) → IsMatroid n free → (k : ℕ) (own : ℕ → Option ℕ) (e to : ℕ) → IsPacking n free k own → to < k → free (set_of n (plus (part own to) e)) → IsPacking n free k (moved own e to)
pack_take n free m k own e to pack below joins = record {
  parts = λ p l.
      by_part own e to p (λ f. free (set_of n f))
      (λ same. joins)
      (λ ne. part_of n free m (minus (part own p) e) (part own p) (λ j _ h. (minus-parts (part own p) e j h).0) (pack.parts p l));
  below = λ i p h. ⊎_elim
      (λ same. let is : Some to ≡ Some p = sym (moved_at own e to i same) ∙ h in let p_is : to ≡ p = cc in subst (λ r. r < k) p_is below)
      (λ ne. pack.below i p (sym (moved_off own e to i ne) ∙ h))
      (cases_eq i e);
}

module _ (n : ℕ) (free : List Bool → Type 0) (m : IsMatroid n free) (k : ℕ) (own : ℕ → Option ℕ) (q b : ℕ → ℕ) (at to : ℕ) (pack : IsPacking n free k own) (tree : Tree n free own q b (suc at)) (ends : End n free k own q at to) where
  e_below : q at < n
  e_below = tree.inside at (omega arith)

  pub pack_after : IsPacking n free k (moved own (q at) to)
  pack_after = pack_take n free m k own (q at) to pack ends.below ends.joins

  module _ (s : ℕ) (owned : own (q at) ≡ Some s) where
    here : Entered n free own q b at s
    here = tree.entered at s (omega arith) owned

    s_to : s ≢ to
    s_to e = both_ways (part own to (q at)) ends.apart (holds_same (own (q at)) to (owned ∙ ap Some e))

    before : (j : ℕ) → j ≤ b at → j < at
    before j l = let h = here.earlier in omega arith

    other : (j : ℕ) → j ≤ b at → q j ≢ q at
    other j l e = tree.distinct j at (before j l) (omega arith) e

    own_before : (j : ℕ) → j ≤ b at → moved own (q at) to (q j) ≡ own (q j)
    own_before j l = moved_off own (q at) to (q j) (other j l)

    -- an element before at is in a part after the move just where it was before
    apart_before : (j r : ℕ) → j ≤ b at → part (moved own (q at) to) r (q j) ≡ false → part own r (q j) ≡ false
    apart_before j r l h = ap (λ o. holds o r) (sym (own_before j l)) ∙ h

    apart_after : (j r : ℕ) → j ≤ b at → part own r (q j) ≡ false → part (moved own (q at) to) r (q j) ≡ false
    apart_after j r l h = ap (λ o. holds o r) (own_before j l) ∙ h

    in_part : (j r : ℕ) → own (q j) ≡ Some r → part own r (q j) ≡ true
    in_part j r h = holds_same (own (q j)) r h

    below_n : (j : ℕ) → j ≤ b at → q j < n
    below_n j l = let h = before j l in tree.inside j (omega arith)

    -- where part r isn't s, it loses nothing
    same_part : (r : ℕ) → r ≢ s → minus (part own r) (q at) ≡ part own r
    same_part r ne = minus_same (part own r) (q at) (holds_other (own (q at)) s r owned (λ e. ne (sym e)))

    module _ (j r : ℕ) (l : j ≤ b at) (has_r : own (q j) ≡ Some r) where
      was : Entered n free own q b j r
      was = let h = before j l in tree.entered j r (omega arith) has_r

      swaps_after : free (set_of n (swap (part (moved own (q at) to) r) (q j) (q (b j))))
      swaps_after =
          let bj : b j < j = was.earlier in
          let bat : b j < at = (let h = before j l in omega arith) in
          let r_below : r < k = pack.below (q j) r has_r in
          by_part own (q at) to r (λ f. free (set_of n (swap f (q j) (q (b j)))))
          (λ same.
          let hr : own (q j) ≡ Some to = has_r ∙ ap Some same in
          let w : Entered n free own q b j to = (let h = before j l in tree.entered j to (omega arith) hr) in
          swap_joined n free m (part own to) (q j) (q (b j)) (q at) (below_n j l) (below_n (b j) (omega arith)) e_below
          (in_part j to hr) w.apart ends.apart (other (b j) (omega arith)) ends.joins (ends.first (b j) to bat ends.below w.apart) w.swaps)
          (λ ne. part_of n free m (swap (minus (part own r) (q at)) (q j) (q (b j))) (swap (part own r) (q j) (q (b j)))
          (λ i _ h. ⊎_elim (λ a. swap-old (part own r) (q j) (q (b j)) i (minus-parts (part own r) (q at) i a.0).0 a.1) (λ e. swap-new (part own r) (q j) (q (b j)) i e) (swap-cases (minus (part own r) (q at)) (q j) (q (b j)) i h))
          was.swaps)

      first_after : (i : ℕ) → i < b j → part (moved own (q at) to) r (q i) ≡ false → free (set_of n (swap (part (moved own (q at) to) r) (q j) (q i))) → ⊥
      first_after i li out =
          let bj : b j < j = was.earlier in
          let apart : part own r (q i) ≡ false = apart_before i r (omega arith) out in
          by_part own (q at) to r (λ f. free (set_of n (swap f (q j) (q i))) → ⊥)
          (λ same w. was.first i li apart
          (part_of n free m (swap (part own r) (q j) (q i)) (swap (plus (part own to) (q at)) (q j) (q i))
          (λ x _ h. ⊎_elim
          (λ a. swap-old (plus (part own to) (q at)) (q j) (q i) x (plus-old (part own to) (q at) x (subst (λ p. part own p x ≡ true) same a.0)) a.1)
          (λ e. swap-new (plus (part own to) (q at)) (q j) (q i) x e)
          (swap-cases (part own r) (q j) (q i) x h))
          w))
          (λ ne. ⊎_elim
          (λ rs. swap_left n free m (part own r) (q at) (q j) (q i) e_below (below_n j l) (below_n i (omega arith))
          (holds_same (own (q at)) r (owned ∙ ap Some (sym rs))) (in_part j r has_r) apart (other j l)
          (pack.parts r (pack.below (q j) r has_r))
          (let h : Entered n free own q b at r = tree.entered at r (omega arith) (owned ∙ ap Some (sym rs)) in h.first i (omega arith) apart)
          (was.first i li apart))
          (λ rn w. was.first i li apart (subst (λ f. free (set_of n (swap f (q j) (q i)))) (same_part r rn) w))
          (cases_eq r s))

    no_end_after : (i r : ℕ) → i < b at → r < k → part (moved own (q at) to) r (q i) ≡ false → free (set_of n (plus (part (moved own (q at) to) r) (q i))) → ⊥
    no_end_after i r li lr out =
        let apart : part own r (q i) ≡ false = apart_before i r (omega arith) out in
        let early : i < at = before i (omega arith) in
        by_part own (q at) to r (λ f. free (set_of n (plus f (q i))) → ⊥)
        (λ same w. ends.first i r early lr apart
        (part_of n free m (plus (part own r) (q i)) (plus (plus (part own to) (q at)) (q i))
        (λ x _ h. ⊎_elim
        (λ a. plus-old (plus (part own to) (q at)) (q i) x (plus-old (part own to) (q at) x (subst (λ p. part own p x ≡ true) same a)))
        (λ e. plus-new (plus (part own to) (q at)) (q i) x e)
        (plus-cases (part own r) (q i) x h))
        w))
        (λ ne. ⊎_elim
        (λ rs. let h : Entered n free own q b at r = tree.entered at r (omega arith) (owned ∙ ap Some (sym rs)) in h.first i li apart)
        (λ rn w. ends.first i r early lr apart (subst (λ f. free (set_of n (plus f (q i)))) (same_part r rn) w))
        (cases_eq r s))

    pub tree_after : Tree n free (moved own (q at) to) q b (suc (b at))
    tree_after = record {
      inside = λ j l. below_n j (omega arith);
      distinct = λ i j l lj. let h = before j (omega arith) in tree.distinct i j l (omega arith);
      entered = λ j r l h.
          let lj : j ≤ b at = omega arith in
          let has_r : own (q j) ≡ Some r = sym (own_before j lj) ∙ h in
          let w = was j r lj has_r in
          let bj : b j < j = w.earlier in
          record {
            earlier = bj;
            apart = apart_after (b j) r (omega arith) w.apart;
            swaps = swaps_after j r lj has_r;
            first = first_after j r lj has_r;
          };
    }

    pub end_after : End n free k (moved own (q at) to) q (b at) s
    end_after = record {
      below = pack.below (q at) s owned;
      apart = apart_after (b at) s (omega arith) here.apart;
      joins = subst (λ f. free (set_of n (plus f (q (b at))))) (sym (part_from own (q at) to s s_to)) here.swaps;
      first = no_end_after;
    }

-- a write to the list of parts moves an element
pub own_set : (owner : List (Option ℕ)) (e to : ℕ) → e < length owner → moved (own_of owner) e to ≡ own_of (set owner e (Some to))
own_set owner e to l = λ t i. at i t
  where
    at : (i : ℕ) → moved (own_of owner) e to i ≡ get_or (set owner e (Some to)) i None
    at i = ⊎_elim
        (λ same. moved_at (own_of owner) e to i same ∙ sym (ap (λ j. get_or (set owner e (Some to)) j None) same ∙ get_or-set_same owner e (Some to) None l))
        (λ ne. moved_off (own_of owner) e to i ne ∙ sym (get_or-set_other owner e i (Some to) None ne))
        (cases_eq i e)

-- a write elsewhere than at a dead element
pub keeps : (dead : List Bool) (owner : List (Option ℕ)) (e to : ℕ) → has dead e ≡ false → (i : ℕ) → has dead i ≡ true → own_of (set owner e (Some to)) i ≡ own_of owner i
keeps dead owner e to alive i h = get_or-set_other owner e i (Some to) None (λ same. both_ways (has dead e) alive (ap (has dead) (sym same) ∙ h))

abbrev unit : Option ℕ → ℕ
unit o = cond (is_none o) 1 0

-- how many elements no part has, after a move
pub spare_kept : (owner : List (Option ℕ)) (e to s : ℕ) → e < length owner → get_or owner e None ≡ Some s → spare (set owner e (Some to)) ≡ spare owner
spare_kept owner e to s l h =
    let both = sum_by-set (λ o. cond (is_none o) 1 0) owner e (Some to) None l in
    let was : unit (get_or owner e None) ≡ 0 = ap unit h in
    omega arith

-- a step of the walk back along the path: element e, the last one, goes to part to
module _ (n : ℕ) (free : List Bool → Type 0) (m : IsMatroid n free) (k : ℕ) (owner : List (Option ℕ)) (q b : ℕ → ℕ) (at to e : ℕ) (pack : IsPacking n free k (own_of owner)) (tree : Tree n free (own_of owner) q b (suc at)) (ends : End n free k (own_of owner) q at to) (is : e ≡ q at) (l : e < length owner) where
  after : moved (own_of owner) (q at) to ≡ own_of (set owner e (Some to))
  after = ap (λ x. moved (own_of owner) x to) (sym is) ∙ own_set owner e to l

  pub step_packing : IsPacking n free k (own_of (set owner e (Some to)))
  step_packing = subst (λ o. IsPacking n free k o) after (pack_after n free m k (own_of owner) q b at to pack tree ends)

  module _ (s before : ℕ) (owned : get_or owner e None ≡ Some s) (came : before ≡ b at) where
    owned_at : own_of owner (q at) ≡ Some s
    owned_at = ap (own_of owner) (sym is) ∙ owned

    pub step_earlier : before < at
    step_earlier = let w = tree.entered at s (omega arith) owned_at in let h = w.earlier in omega arith

    pub step_tree : Tree n free (own_of (set owner e (Some to))) q b (suc before)
    step_tree =
        subst (λ x. Tree n free (own_of (set owner e (Some to))) q b (suc x)) (sym came)
        (subst (λ o. Tree n free o q b (suc (b at))) after (tree_after n free m k (own_of owner) q b at to pack tree ends s owned_at))

    pub step_end : End n free k (own_of (set owner e (Some to))) q before s
    step_end =
        subst (λ x. End n free k (own_of (set owner e (Some to))) q x s) (sym came)
        (subst (λ o. End n free k o q (b at) s) after (end_after n free m k (own_of owner) q b at to pack tree ends s owned_at))
