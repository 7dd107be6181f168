-- The tree begins with node 0 alone, and after a turn it has grown to one node more.
use Rattle.std.specs.Prelude.{ℕ, ◌≡◌, ◌≢◌, ◌==◌, ◌+◌, ◌<◌, ◌≤◌, Bool, true, false, cond, ◌&&◌, List, length, refl}
use Rattle.std.proofs.Common.{sym, ap, ◌∙◌, arith, inl, inr, below_more}
use Rattle.std.proofs.lemmas.Bool.{cases_Bool, cases_eq, eqb-true, eq-eqb, ne_eqb, and_left, and_right, and_parts, cond-false}
use Rattle.graph_core.specs.Side.{has}
use Rattle.graph_core.specs.Lines.{differ, degree}
use Rattle.graph_core.specs.declared.graph.Line.{Line}
use Rattle.cut_trees.specs.declared.branch.Branch.{Branch}
use Rattle.cut_trees.specs.Branch.{led}
use Rattle.flow_cuts.specs.NodeCuts.{IsLeastNodeCut}
use Rattle.cut_trees.specs.Grown.{IsGrown}
use Rattle.cut_trees.specs.Turn.{IsTurn, Follows}
use Rattle.flow_cuts.proofs.NodeCutLaws.{least_either}
use Rattle.cut_trees.proofs.StoredSides.{t_in, t_below, together, covered}

pub grown_first : (n : ℕ) (ls : List Line) (b : ℕ → Branch) (rep : ℕ → ℕ) → 1 ≤ n → ((x : ℕ) → x < n → rep x ≡ 0) → IsGrown n 1 ls 0 b rep
grown_first n ls b rep some zeros = record {
  many = omega arith;
  below = some;
  long = λ j l. absurd (omega arith);
  first_in = λ j l. absurd (omega arith);
  second_in = λ j l. absurd (omega arith);
  inside = λ j l. absurd (omega arith);
  outside = λ j l. absurd (omega arith);
  apart = λ i j li lj other. absurd (omega arith);
  value = λ j l. absurd (omega arith);
  least = λ j l. absurd (omega arith);
  rep_in = λ x l. omega (arith, zeros x l);
  rep_self = λ x l. omega (arith, zeros x (omega arith));
  kept = λ j x l. absurd (omega arith);
  joined = λ q h p l. let first : p ≡ 0 = omega arith in ap q first;
}

cond_same : (f : Bool) (s t r : ℕ) (q : ℕ → Bool) → (f ≡ true → r ≡ t) → q s ≡ q t → q (cond f s r) ≡ q r
cond_same true s t r q to e = e ∙ ap q (sym (to refl))
cond_same false s t r q to e = refl

cond-lt : (f : Bool) (s r : ℕ) → r < s → cond f s r < s + 1
cond-lt true s r l = omega arith
cond-lt false s r l = omega arith

-- Y tells the first node from s and not from t, so it tells s from t
told : (a c d : Bool) → differ a c ≡ true → differ a d ≡ false → differ c d ≡ true
told a c d h k = grind arith

module _ {n s t w m : ℕ} {ls : List Line} {b : ℕ → Branch} {rep : ℕ → ℕ} {X : List Bool} (turn : IsTurn n s t ls m b rep) (cut : IsLeastNodeCut n ls s t w X) (follows : Follows n t m b X)
    (b' : ℕ → Branch) (is : (j : ℕ) → j < m → b' j ≡ led ((b j).second == t && has X (b j).first) s (b j)) (last : b' m ≡ record { first = s; second = t; weight = w; side = X })
    (rep' : ℕ → ℕ) (reps : (x : ℕ) → x < n → rep' x ≡ cond (rep x == t && has X x) s (rep x)) where
  old : IsGrown n s ls m b rep
  old = turn.grown

  below_n : (v : ℕ) → v < s → v < n
  below_n v l = let h = old.below in omega arith

  to_t : (v : ℕ) (f : Bool) → (v == t && f) ≡ true → v ≡ t
  to_t v f h = eqb-true v t (and_parts (v == t) f h).0

  -- what doesn't tell s from t doesn't see that a branch was led on, or a node represented anew
  second_same : (q : ℕ → Bool) → q s ≡ q t → (j : ℕ) → j < m → q (b' j).second ≡ q (b j).second
  second_same q e j l = ap (λ x. q x.second) (is j l) ∙ cond_same ((b j).second == t && has X (b j).first) s t (b j).second q (to_t (b j).second (has X (b j).first)) e

  rep_same : (q : ℕ → Bool) → q s ≡ q t → (x : ℕ) → x < n → q (rep' x) ≡ q (rep x)
  rep_same q e x l = ap q (reps x l) ∙ cond_same (rep x == t && has X x) s t (rep x) q (to_t (rep x) (has X x)) e

  -- a node of the tree other than t, and each that lies in the same stored sides at t: X has both or neither
  gathered : (p x : ℕ) → p < s → p ≢ t → x < n → ((j : ℕ) → j < m → (b j).second ≡ t → has (b j).side p ≡ has (b j).side x) → has X p ≡ has X x
  gathered p x lp other lx alike =
      let c = covered turn p lp other in
      follows c.place p c.place_in (below_n p lp) c.to_t c.holds_it ∙ sym (follows c.place x c.place_in lx c.to_t (sym (alike c.place c.place_in c.to_t) ∙ c.holds_it))

  -- what goes to s where f holds, and to t else, is in X where f holds
  sorted : (f : Bool) → has X (cond f s t) ≡ f
  sorted true = cut.holds
  sorted false = cut.misses

  -- no older branch crosses X
  uncrossed : (j : ℕ) → j < m → has X (b' j).first ≡ has X (b' j).second
  uncrossed j l =
      elim (cases_eq (b j).second t) [
        | inl to ↦ rw (is j l, eq-eqb (b j).second t to, to) (sym (sorted (has X (b j).first)))
        | inr elsewhere ↦ rw (is j l, ne_eqb (b j).second t elsewhere)
            (gathered (b j).first (b j).second (old.first_in j l) (turn.turned_to j l) (below_n (b j).second (old.second_in j l))
            (λ k lk to. old.apart j k l lk (λ e. elsewhere (ap (λ i. (b i).second) e ∙ to))))
      ]

  -- X separates no node from its new representative
  kept_new : (x : ℕ) → x < n → has X (rep' x) ≡ has X x
  kept_new x lx =
      elim (cases_eq (rep x) t) [
        | inl to ↦ rw (reps x lx, eq-eqb (rep x) t to, to) (sorted (has X x))
        | inr elsewhere ↦ rw (reps x lx, ne_eqb (rep x) t elsewhere) (gathered (rep x) x (old.rep_in x lx) elsewhere lx (λ j l to. old.kept j x l lx))
      ]

  -- a branch that was led from t to s is a least cut of its two nodes still
  least_led : (j : ℕ) → j < m → (Y : List Bool) → length Y ≡ n → differ (has Y (b' j).first) (has Y (b' j).second) ≡ true → (b' j).weight ≤ degree Y ls
  least_led j l Y e h =
      let tells : differ (has Y (b j).first) (has Y (cond ((b j).second == t && has X (b j).first) s (b j).second)) ≡ true = rw (is j l) at h in
      rw (is j l)
      (elim (cases_Bool ((b j).second == t && has X (b j).first)) [
        | inr stays ↦ old.least j l Y e (rw stays at tells)
        | inl goes ↦
            elim (cases_Bool (differ (has Y (b j).first) (has Y (b j).second))) [
              | inl before ↦ old.least j l Y e before
              | inr alike ↦
                  let to : (b j).second ≡ t = to_t (b j).second (has X (b j).first) goes in
                  let in_x : has X (b j).first ≡ true = (and_parts ((b j).second == t) (has X (b j).first) goes).1 in
                  let between : differ (has Y s) (has Y (b j).second) ≡ true = told (has Y (b j).first) (has Y s) (has Y (b j).second) (rw goes at tells) alike in
                  let bound = least_either ls turn.fit turn.next (t_below turn) cut.least Y e (rw to at between) in
                  let low = old.least j l X cut.long (λ z. differ (in_x z) ((ap (has X) to ∙ cut.misses) z)) in
                  omega (arith, cut.value)
            ]
      ])

  rep_old : (x : ℕ) → x < s → rep' x ≡ x
  rep_old x l =
      let self : rep x ≡ x = old.rep_self x l in
      let stays : (rep x == t && has X x) ≡ false =
      elim (cases_eq x t) [
        | inl same ↦ and_right (rep x == t) (has X x) (ap (has X) same ∙ cut.misses)
        | inr other ↦ and_left (rep x == t) (has X x) (ne_eqb (rep x) t (λ h. other (sym self ∙ h)))
      ] in
      reps x (below_n x l) ∙ cond-false (rep x == t && has X x) s (rep x) stays ∙ self

  rep_new : rep' s ≡ s
  rep_new = rw (reps s turn.next, eq-eqb (rep s) t turn.rep_is, cut.holds) refl

  pub grown_next : IsGrown n (s + 1) ls (m + 1) b' rep'
  grown_next = record {
    many = let h = old.many in omega arith;
    below = let h = turn.next in omega arith;
    long = below_more (λ j. length (b' j).side ≡ n) m (λ j l. rw (is j l) (old.long j l)) (rw last cut.long);
    first_in = below_more (λ j. (b' j).first < s + 1) m (λ j l. rw (is j l) (let h = old.first_in j l in omega arith)) (rw last (omega arith));
    second_in = below_more (λ j. (b' j).second < s + 1) m (λ j l. rw (is j l) (cond-lt ((b j).second == t && has X (b j).first) s (b j).second (old.second_in j l))) (rw last (let h = t_in turn in omega arith));
    inside = below_more (λ j. has (b' j).side (b' j).first ≡ true) m (λ j l. rw (is j l) (old.inside j l)) (rw last cut.holds);
    outside =
        below_more (λ j. has (b' j).side (b' j).second ≡ false) m
        (λ j l. ap (λ x. has x.side (b' j).second) (is j l) ∙ second_same (has (b j).side) (together turn j l) j l ∙ old.outside j l)
        (rw last cut.misses);
    apart = λ i j li lj other.
        elim (cases_eq j m) [
          | inl j_last ↦ (let l : i < m = omega arith in rw (j_last, last) (uncrossed i l))
          | inr j_old ↦
              let l : j < m = omega arith in
              let side : (b' j).side ≡ (b j).side = ap (λ x. x.side) (is j l) in
              elim (cases_eq i m) [
                | inl i_last ↦ rw (i_last, last, side) (together turn j l)
                | inr i_old ↦
                    let k : i < m = omega arith in
                    rw side (ap (λ x. has (b j).side x.first) (is i k) ∙ old.apart i j k l other ∙ sym (second_same (has (b j).side) (together turn j l) i k))
              ]
        ];
    value = below_more (λ j. degree (b' j).side ls ≡ (b' j).weight) m (λ j l. rw (is j l) (old.value j l)) (rw last cut.value);
    least =
        below_more (λ j. (Y : List Bool) → length Y ≡ n → differ (has Y (b' j).first) (has Y (b' j).second) ≡ true → (b' j).weight ≤ degree Y ls) m least_led
        (rw last (least_either ls turn.fit turn.next (t_below turn) cut.least));
    rep_in = λ x l. rw (reps x l) (cond-lt (rep x == t && has X x) s (rep x) (old.rep_in x l));
    rep_self = below_more (λ x. rep' x ≡ x) s rep_old rep_new;
    kept = λ j x l lx.
        elim (cases_eq j m) [
          | inl j_last ↦ rw (j_last, last) (kept_new x lx)
          | inr j_old ↦ (let k : j < m = omega arith in rw (is j k) (rep_same (has (b j).side) (together turn j k) x lx ∙ old.kept j x k lx))
        ];
    joined = λ q h.
        let new : q s ≡ q t = rw last at (h m (omega arith)) in
        let before = old.joined q (λ j l. sym (ap (λ x. q x.first) (is j l)) ∙ h j (omega arith) ∙ second_same q new j l) in
        below_more (λ p. q p ≡ q 0) s before (new ∙ before t (t_in turn));
  }
