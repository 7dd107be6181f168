-- A turn of splitting off: a pair is split off as often as it may be, and the tight side takes in the one that allows no more.
use Rattle.std.specs.Prelude.{ℕ, ◌≡◌, ◌≢◌, ◌+◌, ◌<◌, ◌≤◌, ◌==◌, ◌⊎◌, Bool, true, false, List, length, slice_index, slice_index_or, sum, replicate, All}
use Rattle.std.proofs.Common.{sym, ap, subst, ◌∙◌, inl, inr, arith}
use Rattle.std.proofs.lemmas.Bool.{cases_Bool, eqb-true, eqb-false}
use Rattle.std.proofs.lemmas.List.Elements.{All-push, All-weaker}
use Rattle.std.proofs.lemmas.List.Quantifiers.{all_pairs_push}
use Rattle.std.proofs.lemmas.List.Sums.{get_or-le-sum_by}
use Rattle.std.proofs.lemmas.List.{length-replicate}
use Rattle.graph_core.specs.Side.{has}
use Rattle.graph_core.proofs.NodeCounts.{size_more}
use Rattle.graph_core.proofs.SideLaws.{has-none}
use Rattle.cut_fn.specs.Covered.{IsTight}
use Rattle.problem_defs.specs.declared.cert.Way.{Way}
use Rattle.flow_cuts.specs.StarValues.{value_for}
use Rattle.split_directed.specs.Ways.{taken_in}
use Rattle.split_directed.specs.Allowed.{IsMost}
use Rattle.split_directed.specs.Rows.{after, AreMost}
use Rattle.cut_fn.specs.Stars.{StarValue}
use Rattle.split_directed.specs.State.{rows_with, IsCoveredStar}
use Rattle.split_directed.specs.Turn.{IsFewest, IsMostUpTo, IsWitness, IsLeft, AreOnce, IsBefore, IsTurn, IsStep}
use Rattle.split_directed.proofs.Rows.{after-push, most-push}
use Rattle.split_directed.proofs.Splits.{Falls, falls_split, falls_none}
use Rattle.split_directed.proofs.Stars.{most_of_all, left_outside, Taken, taken, covered_after, tight_without, tight_both}

-- with a row more, where it splits off at least one
all-with : (P : ℕ × ℕ × ℕ → Type 0) (rows : List (ℕ × ℕ × ℕ)) (u t c : ℕ) → All P rows → P (u, t, c) → All P (rows_with rows u t c)
all-with P rows u t c h p = go (cases_Bool (c == 0))
  where
    go : ((c == 0) ≡ true) ⊎ ((c == 0) ≡ false) → All P (rows_with rows u t c)
    go (inl e) = rw e h
    go (inr e) = rw e (All-push P rows (u, t, c) h p)

once-with : (rows : List (ℕ × ℕ × ℕ)) (u t c : ℕ) → AreOnce rows
    → ((k : ℕ) (d : ℕ × ℕ × ℕ) → k < length rows → (slice_index_or rows k d).0 ≡ u → (slice_index_or rows k d).1 ≢ t) → AreOnce (rows_with rows u t c)
once-with rows u t c h new = go (cases_Bool (c == 0))
  where
    go : ((c == 0) ≡ true) ⊎ ((c == 0) ≡ false) → AreOnce (rows_with rows u t c)
    go (inl e) = rw e h
    go (inr e) = rw e (all_pairs_push (λ p q. p.0 ≡ q.0 → p.1 ≢ q.1) rows (u, t, c) h new)

most-with : (n k : ℕ) (s : StarValue) (rows : List (ℕ × ℕ × ℕ)) (u t c : ℕ) → AreMost n k s rows → u < n → t < n → IsMost n k (after s rows) u t c
    → AreMost n k s (rows_with rows u t c)
most-with n k s rows u t c h lu lt most = go (cases_Bool (c == 0))
  where
    go : ((c == 0) ≡ true) ⊎ ((c == 0) ≡ false) → AreMost n k s (rows_with rows u t c)
    go (inl e) = rw e h
    go (inr e) = rw e (most-push n k s rows u t c h lu lt (let ne = eqb-false c 0 e in omega (arith, ne)) most)

pub falls-with : {n : ℕ} (s : StarValue) (rows : List (ℕ × ℕ × ℕ)) (u t c : ℕ) → length (after s rows).into ≡ n → length (after s rows).out ≡ n
    → u < n → t < n → c ≤ slice_index (after s rows).into t → c ≤ slice_index (after s rows).out u
    → Falls n (after s rows) (after s (rows_with rows u t c)) u t c
falls-with {n} s rows u t c into out lu lt ci co = go (cases_Bool (c == 0))
  where
    go : ((c == 0) ≡ true) ⊎ ((c == 0) ≡ false) → Falls n (after s rows) (after s (rows_with rows u t c)) u t c
    go (inl e) = rw e (subst (λ d. Falls n (after s rows) (after s rows) u t d) (sym (eqb-true c 0 e)) (falls_none (after s rows) u t))
    go (inr e) = rw (e, after-push s rows u t c) (falls_split (after s rows) u t c into out lu lt ci co)

-- before the first try no node is in the tight side
pub turn_begin : {n k t : ℕ} {s : StarValue} {rows : List (ℕ × ℕ × ℕ)} (w : Way) → IsBefore n k t s rows → IsTurn n k t s rows w (replicate n false)
turn_begin {n} {k} {t} {s} {rows} w before = record {
  covered = before.covered;
  same = before.same;
  most = before.most;
  once = before.once;
  upto = All-weaker (λ r. r.1 < t) (λ r. r.1 ≤ t) (λ r lt. omega arith) rows before.below;
  done = before.done;
  tried = All-weaker (λ r. r.1 < t) (λ r. r.1 ≡ t → 1 ≤ slice_index (after s rows).into t → 1 ≤ slice_index (after s rows).out r.0 → has (replicate n false) r.0 ≡ true) (λ r lt is. absurd (omega arith)) rows before.below;
  witness = record {
    long = length-replicate n false;
    tight = λ inside. absurd (let no = sym (has-none n t) ∙ inside in cc);
    none = λ outside v. has-none n v;
  };
}

-- while an arc to t is left, so is one from a node outside of the tight side
pub turn_next : {n k t : ℕ} {s : StarValue} {rows : List (ℕ × ℕ × ℕ)} {w : Way} {M : List Bool} → IsTurn n k t s rows w M → t < n
    → 1 ≤ slice_index (after s rows).into t → (u : ℕ) × IsLeft (after s rows).out M u
turn_next {n} {k} {t} {s} {rows} turn l some =
    let x = after s rows in
    let all : 1 ≤ sum x.into = omega (arith, get_or-le-sum_by (λ c. c) x.into t 0 (omega (arith, turn.covered.into_long))) in
    left_outside turn.covered turn.same some all turn.witness

module _ {n k t : ℕ} {s : StarValue} {rows : List (ℕ × ℕ × ℕ)} {w : Way} {M : List Bool} (turn : IsTurn n k t s rows w M) (u b q : ℕ) (w' : Way) (X : List Bool)
    (left : IsLeft (after s rows).out M u) (node : t < n) (some : 1 ≤ slice_index (after s rows).into t)
    (few : IsFewest (after s rows).out (after s rows).into u t b) (most : IsMostUpTo n k (after s rows) u t b q w' X) where
  below : u < n
  below = omega (arith, left.below, turn.covered.out_long)

  fall : Falls n (after s rows) (after s (rows_with rows u t q)) u t q
  fall = falls-with s rows u t q turn.covered.into_long turn.covered.out_long below node (omega (arith, most.within, few.into_most)) (omega (arith, most.within, few.out_most))

  covered_next : IsCoveredStar n k (after s (rows_with rows u t q))
  covered_next = covered_after turn.covered fall most.enters most.leaves

  same_next : sum (after s (rows_with rows u t q)).into ≡ sum (after s (rows_with rows u t q)).out
  same_next = omega (arith, turn.same, fall.into_sum, fall.out_sum)

  -- the tight side keeps its value, as u isn't in it
  witness_kept : IsWitness n k (after s (rows_with rows u t q)) t w M
  witness_kept = record {
    long = turn.witness.long;
    tight = λ h. tight_without turn.covered fall w M (turn.witness.tight h) left.outside;
    none = turn.witness.none;
  }

  -- the turn with the tight side that follows
  kept_with : (w2 : Way) (N : List Bool) → IsWitness n k (after s (rows_with rows u t q)) t w2 N → ((v : ℕ) → has M v ≡ true → has N v ≡ true)
      → (1 ≤ slice_index (after s (rows_with rows u t q)).into t → 1 ≤ slice_index (after s (rows_with rows u t q)).out u → has N u ≡ true) → IsTurn n k t s (rows_with rows u t q) w2 N
  kept_with w2 N witness kept new = record {
    covered = covered_next;
    same = same_next;
    most = most-with n k s rows u t q turn.most below node (most_of_all turn.covered most few);
    once = once-with rows u t q turn.once (λ j d l first second. absurd (cc (turn.tried j d l second some (rw first left.some), ap (has M) first ∙ left.outside)));
    upto = all-with (λ r. r.1 ≤ t) rows u t q turn.upto (omega arith);
    done = λ v l. omega (arith, fall.into_less v, turn.done v l);
    tried = all-with (λ r. r.1 ≡ t → 1 ≤ slice_index (after s (rows_with rows u t q)).into t → 1 ≤ slice_index (after s (rows_with rows u t q)).out r.0 → has N r.0 ≡ true) rows u t q
        (All-weaker (λ r. r.1 ≡ t → 1 ≤ slice_index (after s rows).into t → 1 ≤ slice_index (after s rows).out r.0 → has M r.0 ≡ true) (λ r. r.1 ≡ t → 1 ≤ slice_index (after s (rows_with rows u t q)).into t → 1 ≤ slice_index (after s (rows_with rows u t q)).out r.0 → has N r.0 ≡ true)
        (λ r h e i o. kept r.0 (h e some (omega (arith, fall.out_less r.0)))) rows turn.tried)
        (λ e i o. new i o);
    witness = witness;
  }

  -- a count is used up
  pub step_used : b ≤ q → IsStep n k t s rows (rows_with rows u t q) M w M
  step_used used = record {
    turn = kept_with w M witness_kept (λ v h. h) (λ i o. absurd (omega (arith, few.greatest (q + 1) (omega (arith, fall.out_here)) (omega (arith, fall.into_here)))));
    less = omega (arith, fall.out_sum, few.greatest 1 left.some some);
  }

  -- a side allows no more, and is taken in
  pub step_blocked : q < b → IsStep n k t s rows (rows_with rows u t q) M w' (taken_in w M w' X t)
  step_blocked short =
      let h = most.blocked short in
      let N = taken_in w M w' X t in
      let x = taken covered_next w' X same_next (omega (arith, fall.into_here, few.into_most)) witness_kept (tight_both turn.covered fall w' X h) h.second h.first left.outside in
      record {
        turn = kept_with w' N x.witness x.kept (λ i o. x.new);
        less = omega (arith, fall.out_sum, size_more M N u (turn.witness.long ∙ sym x.witness.long) x.kept left.outside x.new);
      }

-- where a pair can't be split off even once, the side that forbids it is taken in
pub partner_turn : {n k t u q : ℕ} {s : StarValue} {w w' : Way} {M X : List Bool} (c : IsCoveredStar n k s) → sum s.into ≡ sum s.out
    → 1 ≤ slice_index s.into t → IsWitness n k s t w M → IsLeft s.out M u
    → IsMostUpTo n k s u t 1 q w' X → (q ≡ 1 → ⊥) → Taken c t u w' M (taken_in w M w' X t)
partner_turn {n} {k} {t} {u} {q} {s} {w} {w'} {M} {X} c same some h left most ne =
    let short : q < 1 = omega (arith, most.within, ne) in
    let b = most.blocked short in
    let tight : IsTight n k (value_for w' s) X = record { proper = b.proper; value = b.value_is ∙ omega arith } in
    taken c w' X same some h tight b.second b.first left.outside
