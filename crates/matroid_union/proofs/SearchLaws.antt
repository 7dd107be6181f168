-- The steps of a search.
use Rattle.std.proofs.Common.{ℕ, ◌≡◌, ◌+◌, ◌<◌, ◌≤◌, Bool, true, false, cond, ◌⊎◌, inl, inr, List, [], ◌∷◌, ◌++◌, length, get_or, set, Option, Some, None, sym, refl, ap, ◌∙◌, arith, ⊎_elim, subst}
use Rattle.std.proofs.lemmas.Bool.{cases_eq, cases_lt, both_ways, false_from_ne_true}
use Rattle.std.proofs.lemmas.List.{length-set, get_or-set_same, get_or-set_other, get_or_append_left, get_or_push, length_push}
use Rattle.std.proofs.lemmas.List.Sums.{sum_by-set}
use Rattle.graph_core.specs.Side.{has, size}
use Rattle.graph_core.proofs.Counting.{weight}
use Rattle.matroid_union.specs.Matroid.{IsMatroid}
use Rattle.matroid_union.specs.Sets.{plus, swap}
use Rattle.graph_core.specs.Sets.{set_of}
use Rattle.matroid_union.specs.Parts.{holds, part, kept, Entered, Tree}
use Rattle.matroid_union.specs.Search.{Begins, IsFull, AreDead, IsSearch}
use Rattle.matroid_union.proofs.Members.{plus-old, plus-new, plus-cases, swap-old, swap-new}
use Rattle.matroid_union.proofs.Exchanges.{part_of}
use Rattle.matroid_union.proofs.Kept.{kept-part, kept-cases, kept-reached}
use Rattle.matroid_union.proofs.Chain.{holds_is}

-- marking an element that wasn't marked
module _ (reached : List Bool) (y : ℕ) (ly : y < length reached) (fresh : has reached y ≡ false) where
  pub size_mark : size (set reached y true) ≡ size reached + 1
  size_mark =
      let both = sum_by-set (λ b. cond b 1 0) reached y true false ly in
      let none : weight (has reached y) ≡ 0 = ap weight fresh in
      omega arith

  pub mark_new : has (set reached y true) y ≡ true
  mark_new = get_or-set_same reached y true false ly

  pub mark_old : (i : ℕ) → has reached i ≡ true → has (set reached y true) i ≡ true
  mark_old i h = ⊎_elim (λ e. rw e mark_new) (λ ne. get_or-set_other reached y i true false ne ∙ h) (cases_eq i y)

  pub mark_cases : (i : ℕ) → has (set reached y true) i ≡ true → (has reached i ≡ true) ⊎ (i ≡ y)
  mark_cases i h = ⊎_elim (λ e. inr e) (λ ne. inl (sym (get_or-set_other reached y i true false ne) ∙ h)) (cases_eq i y)

pub begins_refl : (q : List ℕ) → Begins q q
begins_refl q = record { longer = omega arith; same = λ i l. refl }

pub begins_trans : (a b c : List ℕ) → Begins a b → Begins b c → Begins a c
begins_trans a b c v w =
    let first = v.longer in
    let next = w.longer in
    record { longer = omega arith; same = λ i l. w.same i (omega arith) ∙ v.same i l }

pub begins_push : (q : List ℕ) (y : ℕ) → Begins q (q ++ y ∷ [])
begins_push q y = record { longer = (let e = length_push q y in omega arith); same = λ i l. get_or_append_left q (y ∷ []) 0 i l }

module _ (n : ℕ) (free : List Bool → Type 0) (m : IsMatroid n free) (k : ℕ) (own : ℕ → Option ℕ) where
  -- a larger reached set leaves full what was full
  pub full_more : (reached more : List Bool) (p x : ℕ) → ((i : ℕ) → has reached i ≡ true → has more i ≡ true) → (free (set_of n (plus (kept own reached p n) x)) → ⊥) → free (set_of n (plus (kept own more p n) x)) → ⊥
  full_more reached more p x sub full w =
      full (part_of n free m (plus (kept own reached p n) x) (plus (kept own more p n) x)
      (λ i l h. ⊎_elim
      (λ a. plus-old (kept own more p n) x i (kept-reached own more p n i (kept-part own reached p n i a)
      (⊎_elim (λ over. absurd (omega arith)) (λ r. sub i r) (kept-cases own reached p n i a))))
      (λ e. plus-new (kept own more p n) x i e)
      (plus-cases (kept own reached p n) x i h))
      w)

  -- where a part is full for x, no unreached element of it can leave for x
  pub full_swap : (reached : List Bool) (p x y : ℕ) → has reached y ≡ false → (free (set_of n (plus (kept own reached p n) x)) → ⊥) → free (set_of n (swap (part own p) y x)) → ⊥
  full_swap reached p x y fresh full w =
      full (part_of n free m (plus (kept own reached p n) x) (swap (part own p) y x)
      (λ i l h. ⊎_elim
      (λ a. swap-old (part own p) y x i (kept-part own reached p n i a)
      (λ e. ⊎_elim (λ over. omega arith) (λ r. both_ways (has reached y) fresh (ap (has reached) (sym e) ∙ r)) (kept-cases own reached p n i a)))
      (λ e. swap-new (part own p) y x i e)
      (plus-cases (kept own reached p n) x i h))
      w)

  -- an element that is reached joins the queue
  module _ (dead reached : List Bool) (queue back : List ℕ) (at p y : ℕ) (s : IsSearch n free k own dead reached queue back at) (l : at < length queue) (lp : p < k) (ly : y < n) (held : part own p y ≡ true) (fresh : has reached y ≡ false) (apart : part own p (get_or queue at 0) ≡ false) (swaps : free (set_of n (swap (part own p) y (get_or queue at 0)))) where
    q_old : (j : ℕ) → j < length queue → get_or (queue ++ y ∷ []) j 0 ≡ get_or queue j 0
    q_old j h = get_or_append_left queue (y ∷ []) 0 j h

    q_new : get_or (queue ++ y ∷ []) (length queue) 0 ≡ y
    q_new = get_or_push queue y 0 (length queue) refl

    q_at : (j : ℕ) → j ≡ length queue → get_or (queue ++ y ∷ []) j 0 ≡ y
    q_at j e = ap (λ x. get_or (queue ++ y ∷ []) x 0) e ∙ q_new

    b_old : (j : ℕ) → j < length queue → get_or (back ++ at ∷ []) j 0 ≡ get_or back j 0
    b_old j h = get_or_append_left back (at ∷ []) 0 j (rw s.back_long h)

    b_new : get_or (back ++ at ∷ []) (length queue) 0 ≡ at
    b_new = get_or_push back at 0 (length queue) s.back_long

    split : (j : ℕ) → j < length (queue ++ y ∷ []) → (j < length queue) ⊎ (j ≡ length queue)
    split j h = let e = length_push queue y in ⊎_elim (λ a. inl a) (λ a. inr (omega arith)) (cases_lt j (length queue))

    entered_old : (j r : ℕ) → j < length queue → Entered n free own (λ i. get_or queue i 0) (λ i. get_or back i 0) j r → Entered n free own (λ i. get_or (queue ++ y ∷ []) i 0) (λ i. get_or (back ++ at ∷ []) i 0) j r
    entered_old j r h w =
        let was : get_or back j 0 < j = w.earlier in
        let bj : get_or (back ++ at ∷ []) j 0 ≡ get_or back j 0 = b_old j h in
        let qj : get_or (queue ++ y ∷ []) j 0 ≡ get_or queue j 0 = q_old j h in
        let qb : get_or (queue ++ y ∷ []) (get_or (back ++ at ∷ []) j 0) 0 ≡ get_or queue (get_or back j 0) 0 =
        ap (λ i. get_or (queue ++ y ∷ []) i 0) bj ∙ q_old (get_or back j 0) (omega arith) in
        record {
          earlier = omega arith;
          apart = ap (part own r) qb ∙ w.apart;
          swaps = subst (λ x. free (set_of n (swap (part own r) (get_or (queue ++ y ∷ []) j 0) x))) (sym qb) (subst (λ x. free (set_of n (swap (part own r) x (get_or queue (get_or back j 0) 0)))) (sym qj) w.swaps);
          first = λ i li out f.
              let qi : get_or (queue ++ y ∷ []) i 0 ≡ get_or queue i 0 = q_old i (omega arith) in
              w.first i (omega arith) (ap (part own r) (sym qi) ∙ out)
              (subst (λ x. free (set_of n (swap (part own r) (get_or queue j 0) x))) qi (subst (λ x. free (set_of n (swap (part own r) x (get_or (queue ++ y ∷ []) i 0)))) qj f));
        }

    entered_new : Entered n free own (λ i. get_or (queue ++ y ∷ []) i 0) (λ i. get_or (back ++ at ∷ []) i 0) (length queue) p
    entered_new =
        let qb : get_or (queue ++ y ∷ []) (get_or (back ++ at ∷ []) (length queue) 0) 0 ≡ get_or queue at 0 =
        ap (λ i. get_or (queue ++ y ∷ []) i 0) b_new ∙ q_old at l in
        let bn = b_new in
        record {
          earlier = rw b_new l;
          apart = ap (part own p) qb ∙ apart;
          swaps = subst (λ x. free (set_of n (swap (part own p) (get_or (queue ++ y ∷ []) (length queue) 0) x))) (sym qb) (subst (λ x. free (set_of n (swap (part own p) x (get_or queue at 0)))) (sym q_new) swaps);
          first = λ i li out f.
              let qi : get_or (queue ++ y ∷ []) i 0 ≡ get_or queue i 0 = q_old i (omega arith) in
              let out' : part own p (get_or queue i 0) ≡ false = ap (part own p) (sym qi) ∙ out in
              full_swap reached p (get_or queue i 0) y fresh (s.full i (omega arith) p lp out')
              (subst (λ x. free (set_of n (swap (part own p) y x))) qi (subst (λ x. free (set_of n (swap (part own p) x (get_or (queue ++ y ∷ []) i 0)))) q_new f));
        }

    marked_apart : (i : ℕ) → i < length queue → get_or queue i 0 ≡ y → ⊥
    marked_apart i h e = both_ways (has reached y) fresh (ap (has reached) (sym e) ∙ s.marked i h)

    y_reached : y < length reached
    y_reached = rw s.reached_long ly

    tree_push : Tree n free own (λ i. get_or (queue ++ y ∷ []) i 0) (λ i. get_or (back ++ at ∷ []) i 0) (length (queue ++ y ∷ []))
    tree_push = record {
      inside = λ j h. ⊎_elim (λ a. rw (q_old j a) (s.tree.inside j a)) (λ e. subst (λ x. x < n) (sym (q_at j e)) ly) (split j h);
      distinct = λ i j li lj e. ⊎_elim
          (λ a. s.tree.distinct i j li a (sym (q_old i (omega arith)) ∙ e ∙ q_old j a))
          (λ jn. marked_apart i (omega arith) (sym (q_old i (omega arith)) ∙ e ∙ ap (λ x. get_or (queue ++ y ∷ []) x 0) jn ∙ q_new))
          (split j lj);
      entered = λ j r h has_r. ⊎_elim
          (λ a. entered_old j r a (s.tree.entered j r a (ap own (sym (q_old j a)) ∙ has_r)))
          (λ jn.
          let same : Some p ≡ Some r = sym (holds_is (own y) p held) ∙ ap own (sym q_new ∙ ap (λ x. get_or (queue ++ y ∷ []) x 0) (sym jn)) ∙ has_r in
          let pr : p ≡ r = cc in
          subst (λ x. Entered n free own (λ i. get_or (queue ++ y ∷ []) i 0) (λ i. get_or (back ++ at ∷ []) i 0) x r) (sym jn)
          (subst (λ x. Entered n free own (λ i. get_or (queue ++ y ∷ []) i 0) (λ i. get_or (back ++ at ∷ []) i 0) (length queue) x) pr entered_new))
          (split j h);
    }

    pub search_push : IsSearch n free k own dead (set reached y true) (queue ++ y ∷ []) (back ++ at ∷ []) at
    search_push = record {
      reached_long = length-set reached y true ∙ s.reached_long;
      back_long = length_push back at ∙ ap (λ x. x + 1) s.back_long ∙ sym (length_push queue y);
      count = (let marked = size_mark reached y y_reached fresh in let longer = length_push queue y in let c = s.count in omega arith);
      tree = tree_push;
      marked = λ j h. ⊎_elim
          (λ a. rw (q_old j a) (mark_old reached y y_reached fresh (get_or queue j 0) (s.marked j a)))
          (λ e. ap (has (set reached y true)) (q_at j e) ∙ mark_new reached y y_reached fresh)
          (split j h);
      alive = λ j h. ⊎_elim
          (λ a. ap (has dead) (q_old j a) ∙ s.alive j a)
          (λ e. ap (has dead) (q_at j e) ∙ false_from_ne_true (has dead y) (λ t. both_ways (has reached y) fresh (s.older y t)))
          (split j h);
      older = λ e h. mark_old reached y y_reached fresh e (s.older e h);
      queued = λ e h. ⊎_elim
          (λ a. ⊎_elim
          (λ d. inl d)
          (λ w. inr (record { at = w.at; below = (let w_below = w.below in let lp = length_push queue y in omega arith); is = q_old w.at w.below ∙ w.is }))
          (s.queued e a))
          (λ i. inr (record { at = length queue; below = (let lp = length_push queue y in omega arith); is = q_new ∙ sym i }))
          (mark_cases reached y y_reached fresh e h);
      full = λ i li r lr out.
          let qi : get_or (queue ++ y ∷ []) i 0 ≡ get_or queue i 0 = q_old i (omega arith) in
          let was = s.full i li r lr (ap (part own r) (sym qi) ∙ out) in
          λ w. full_more reached (set reached y true) r (get_or queue i 0) (mark_old reached y y_reached fresh) was
          (subst (λ x. free (set_of n (plus (kept own (set reached y true) r n) x))) qi w);
    }

  -- the first places of a tree
  pub tree_front : (q b : ℕ → ℕ) (len less : ℕ) → less ≤ len → Tree n free own q b len → Tree n free own q b less
  tree_front q b len less l t = record {
    inside = λ j h. t.inside j (omega arith);
    distinct = λ i j li lj. t.distinct i j li (omega arith);
    entered = λ j p h. t.entered j p (omega arith);
  }

  -- one place more was looked at
  pub search_next : (dead reached : List Bool) (queue back : List ℕ) (at : ℕ) → IsSearch n free k own dead reached queue back at → IsFull n free k own reached (get_or queue at 0) → IsSearch n free k own dead reached queue back (at + 1)
  search_next dead reached queue back at s here = record {
    reached_long = s.reached_long;
    back_long = s.back_long;
    count = s.count;
    tree = s.tree;
    marked = s.marked;
    alive = s.alive;
    older = s.older;
    queued = s.queued;
    full = λ i l. ⊎_elim (λ e. rw e here) (λ ne. s.full i (omega arith)) (cases_eq i at);
  }

  -- the start of a search, from an element that no part has
  pub search_start : (dead : List Bool) (e : ℕ) → length dead ≡ n → e < n → own e ≡ None → has dead e ≡ false → IsSearch n free k own dead (set dead e true) (e ∷ []) (0 ∷ []) 0
  search_start dead e long le none alive =
      let short : e < length dead = rw long le in
      let first : (j : ℕ) → j < 1 → get_or (e ∷ []) j 0 ≡ e = λ j l. let z : j ≡ 0 = omega arith in ap (λ x. get_or (e ∷ []) x 0) z in
      record {
        reached_long = length-set dead e true ∙ long;
        back_long = refl;
        count = (let marked = size_mark dead e short alive in omega arith);
        tree = record {
          inside = λ j l. subst (λ x. x < n) (sym (first j l)) le;
          distinct = λ i j li lj. absurd (omega arith);
          entered = λ j p l h. let owned = ap own (first j l) ∙ none in absurd cc;
        };
        marked = λ j l. rw (first j l) (mark_new dead e short alive);
        alive = λ j l. ap (has dead) (first j l) ∙ alive;
        older = mark_old dead e short alive;
        queued = λ i h. ⊎_elim (λ d. inl d) (λ same. inr (record { at = 0; below = omega arith; is = sym same })) (mark_cases dead e short alive i h);
        full = λ i l. absurd (omega arith);
      }

  pub search_restart : (dead : List Bool) (e : ℕ) → length dead ≡ n → e < n → own e ≡ None → has dead e ≡ false → (dead' reached' : List Bool) (queue' back' : List ℕ) → dead' ≡ dead → reached' ≡ set dead e true → queue' ≡ e ∷ [] → back' ≡ 0 ∷ [] → IsSearch n free k own dead' reached' queue' back' 0
  search_restart dead e long le none alive dead' reached' queue' back' ed er eq eb =
      subst (λ d. IsSearch n free k own d reached' queue' back' 0) (sym ed)
      (subst (λ r. IsSearch n free k own dead r queue' back' 0) (sym er)
      (subst (λ q. IsSearch n free k own dead (set dead e true) q back' 0) (sym eq)
      (subst (λ b. IsSearch n free k own dead (set dead e true) (e ∷ []) b 0) (sym eb) (search_start dead e long le none alive))))

  -- a search that ended in vain
  pub dead_more : (dead reached : List Bool) (queue back : List ℕ) → AreDead n free k own dead → IsSearch n free k own dead reached queue back (length queue) → AreDead n free k own reached
  dead_more dead reached queue back d s = record {
    long = s.reached_long;
    full = λ e h. ⊎_elim
        (λ was p lp out. full_more dead reached p e s.older (d.full e was p lp out))
        (λ place p lp out. subst (λ x. free (set_of n (plus (kept own reached p n) x)) → ⊥) place.is (s.full place.at place.below p lp (ap (part own p) place.is ∙ out)))
        (s.queued e h);
  }

  -- where no dead element moves, the dead stay dead
  pub dead_kept : (dead : List Bool) (own' : ℕ → Option ℕ) → ((e : ℕ) → has dead e ≡ true → own' e ≡ own e) → AreDead n free k own dead → AreDead n free k own' dead
  dead_kept dead own' same d = record {
    long = d.long;
    full = λ e h p lp out w.
        d.full e h p lp (ap (λ o. holds o p) (sym (same e h)) ∙ out)
        (part_of n free m (plus (kept own dead p n) e) (plus (kept own' dead p n) e)
        (λ i li t. ⊎_elim
        (λ a.
        let old : has dead i ≡ true = ⊎_elim (λ over. absurd (omega arith)) (λ r. r) (kept-cases own dead p n i a) in
        plus-old (kept own' dead p n) e i (kept-reached own' dead p n i (ap (λ o. holds o p) (same i old) ∙ kept-part own dead p n i a) old))
        (λ is. plus-new (kept own' dead p n) e i is)
        (plus-cases (kept own dead p n) e i t))
        w);
  }
