-- The steps of a look at one part.
use Rattle.std.proofs.Common.{ℕ, ◌≡◌, ◌+◌, ◌<◌, ◌≤◌, Bool, true, false, List, [], ◌∷◌, ◌++◌, length, get_or, set, Option, sym, ap, ◌∙◌, arith, ⊎_elim, subst}
use Rattle.std.proofs.lemmas.Bool.{cases_eq}
use Rattle.std.proofs.lemmas.List.{get_or_append_left, length_push}
use Rattle.std.proofs.lemmas.List.Sums.{count_by-le-length}
use Rattle.graph_core.specs.Side.{has, size}
use Rattle.matroid_union.specs.Matroid.{IsMatroid}
use Rattle.matroid_union.specs.Sets.{plus, swap}
use Rattle.graph_core.specs.Sets.{set_of}
use Rattle.matroid_union.specs.Parts.{part, kept}
use Rattle.matroid_union.specs.Search.{Begins, IsShut, IsFull, IsSearch}
use Rattle.matroid_union.proofs.SearchLaws.{mark_old, full_more, search_push, begins_push}

-- what stands after an element joined the queue
pub record Step (n : ℕ) (free : List Bool → Type 0) (k : ℕ) (own : ℕ → Option ℕ) (x at : ℕ) (dead' reached reached' : List Bool) (queue queue' back' : List ℕ) : Type 0 where
  pub begins : Begins queue queue'
  pub place : at < length queue'
  pub element : get_or queue' at 0 ≡ x
  pub search : IsSearch n free k own dead' reached' queue' back' at
  pub full : (r : ℕ) → IsFull n free r own reached x → IsFull n free r own reached' x

module _ (n : ℕ) (free : List Bool → Type 0) (m : IsMatroid n free) (k : ℕ) (own : ℕ → Option ℕ) where
  pub queue_short : (dead reached : List Bool) (queue back : List ℕ) (at : ℕ) → IsSearch n free k own dead reached queue back at → length queue ≤ n
  queue_short dead reached queue back at s =
      let a = s.count in
      let b = s.reached_long in
      let c : size reached ≤ length reached = count_by-le-length (λ x. x) reached in
      omega arith

  -- in a queue that begins with an older one
  pub shut_still : (older newer : List ℕ) (i : ℕ) → Begins older newer → i < length older → IsShut n free k own (get_or older i 0) → IsShut n free k own (get_or newer i 0)
  shut_still older newer i b l = subst (IsShut n free k own) (sym (b.same i l))

  pub full_one_more : (reached : List Bool) (p x : ℕ) → IsFull n free p own reached x → (free (set_of n (plus (kept own reached p n) x)) → ⊥) → IsFull n free (p + 1) own reached x
  full_one_more reached p x below here = λ r l out w.
      ⊎_elim
      (λ e. here (subst (λ q. free (set_of n (plus (kept own reached q n) x))) e w))
      (λ ne. below r (omega arith) out w)
      (cases_eq r p)

  module _ (dead reached : List Bool) (queue back : List ℕ) (at p x y : ℕ) (s : IsSearch n free k own dead reached queue back at) (l : at < length queue) (e : get_or queue at 0 ≡ x) (lp : p < k) (ly : y < n) (held : part own p y ≡ true) (fresh : has reached y ≡ false) (apart : part own p x ≡ false) (swaps : free (set_of n (swap (part own p) y x)))
      (dead' reached' : List Bool) (queue' back' : List ℕ) (new_dead : dead' ≡ dead) (new_reached : reached' ≡ set reached y true) (new_queue : queue' ≡ queue ++ y ∷ []) (new_back : back' ≡ back ++ at ∷ []) where
    reach_search : IsSearch n free k own dead' reached' queue' back' at
    reach_search =
        let out' : part own p (get_or queue at 0) ≡ false = ap (part own p) e ∙ apart in
        let swaps' : free (set_of n (swap (part own p) y (get_or queue at 0))) = subst (λ z. free (set_of n (swap (part own p) y z))) (sym e) swaps in
        let done = search_push n free m k own dead reached queue back at p y s l lp ly held fresh out' swaps' in
        subst (λ d. IsSearch n free k own d reached' queue' back' at) (sym new_dead)
        (subst (λ r. IsSearch n free k own dead r queue' back' at) (sym new_reached)
        (subst (λ q. IsSearch n free k own dead (set reached y true) q back' at) (sym new_queue)
        (subst (λ b. IsSearch n free k own dead (set reached y true) (queue ++ y ∷ []) b at) (sym new_back) done)))

    reach_place : at < length queue'
    reach_place = let q = length_push queue y in let r = ap length new_queue in omega arith

    reach_element : get_or queue' at 0 ≡ x
    reach_element = ap (λ q. get_or q at 0) new_queue ∙ get_or_append_left queue (y ∷ []) 0 at l ∙ e

    reach_full : (r : ℕ) → IsFull n free r own reached x → IsFull n free r own reached' x
    reach_full r w = λ q lq out.
        let y_in : y < length reached = subst (λ z. y < z) (sym s.reached_long) ly in
        let more = full_more n free m k own reached (set reached y true) q x (mark_old reached y y_in fresh) (w q lq out) in
        subst (λ z. free (set_of n (plus (kept own z q n) x)) → ⊥) (sym new_reached) more

    pub reach_step : Step n free k own x at dead' reached reached' queue queue' back'
    reach_step = record { begins = subst (Begins queue) (sym new_queue) (begins_push queue y); place = reach_place; element = reach_element; search = reach_search; full = reach_full }
