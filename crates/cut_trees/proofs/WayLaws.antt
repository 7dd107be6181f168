-- The way back from v.
use Rattle.std.specs.Prelude.{ℕ, ◌≡◌, ◌≢◌, ◌+◌, ◌<◌, ◌≤◌, Bool, true, false, not, List, length, slice_set}
use Rattle.graph_core.specs.Lines.{differ}
use Rattle.graph_core.specs.Side.{has, complement, IsOnly}
use Rattle.graph_core.proofs.SideLaws.{has-complement}
use Rattle.std.proofs.Common.{sym, ap, ◌∙◌, arith, inl, inr}
use Rattle.std.proofs.lemmas.Bool.{cases_eq, false_from_ne_true}
use Rattle.std.proofs.lemmas.List.{get_or-set_same, get_or-set_other}
use Rattle.std.proofs.lemmas.List.Elements.{All-get_or}
use Rattle.graph_core.specs.Pairs.{no_pair, pair_at, AreIn}
use Rattle.cut_trees.specs.Order.{IsReached, IsOrdered}
use Rattle.cut_trees.specs.Way.{IsCutAt, IsLeastOnWay}

-- from v the way has been followed back to the node `at` by pairs from place i on; `least` is the place of the least of them, or past the end
pub record IsFollowed (ps : List (ℕ × ℕ × ℕ)) (v i at least : ℕ) : Type 0 where
  pub within : i ≤ length ps
  pub place : least ≤ length ps
  pub behind : i ≤ least
  pub none : least ≡ length ps → at ≡ v
  pub back : (u : ℕ) → IsOrdered u ps (length ps) → IsReached u ps (length ps) v → IsReached u ps i at
  pub along : (Z : List Bool) → ((k : ℕ) → i ≤ k → k < length ps → has Z (pair_at ps k).0 ≡ has Z (pair_at ps k).1) → has Z at ≡ has Z v
  pub parted : (Y : List Bool) → differ (has Y at) (has Y v) ≡ true
      → (k : ℕ) × (k < length ps) × (differ (has Y (pair_at ps k).0) (has Y (pair_at ps k).1) ≡ true) × ((pair_at ps least).2 ≤ (pair_at ps k).2)
  pub between : least < length ps → (Z : List Bool) → ((k : ℕ) → k < length ps → k ≢ least → has Z (pair_at ps k).0 ≡ has Z (pair_at ps k).1)
      → (has Z at ≡ has Z (pair_at ps least).0) × (has Z v ≡ has Z (pair_at ps least).1)

-- at u the way ends
pub way_done : {ps : List (ℕ × ℕ × ℕ)} {u v at least : ℕ} → u ≢ v → IsOrdered u ps (length ps) → IsReached u ps (length ps) v → IsFollowed ps v 0 at least → IsLeastOnWay ps u v least
way_done {ps} {u} {v} {at} {least} apart ordered reached f =
    let at_u : at ≡ u = elim (f.back u ordered reached) [ inl e ↦ e | inr (k, l, e) ↦ absurd (omega arith) ] in
    let within : least < length ps = elim (cases_eq least (length ps)) [ inl e ↦ absurd (apart (sym at_u ∙ f.none e)) | inr ne ↦ (let h = f.place in omega arith) ] in
    record {
      within = within;
      least = λ Y h. f.parted Y (rw at_u h);
      between = λ Z h. rw (← at_u) (f.between within Z h);
    }

-- a side of all nodes but one, where pair j leads
pub cut_first : {n u j : ℕ} {ps : List (ℕ × ℕ × ℕ)} (X : List Bool) → AreIn n ps → IsOrdered u ps (length ps) → j < length ps → length X ≡ n → IsOnly X (pair_at ps j).1 → IsCutAt ps j (j + 1) (complement X)
cut_first {n} {u} {j} {ps} X nodes ordered lj long only =
    let both : (k : ℕ) → k < length ps → ((pair_at ps k).0 < n) × ((pair_at ps k).1 < n) = λ k l. All-get_or (λ p. (p.0 < n) × (p.1 < n)) ps k no_pair l nodes in
    let others : (x : ℕ) → x < n → x ≢ (pair_at ps j).1 → has (complement X) x ≡ true =
    λ x l ne. has-complement X x (omega arith) ∙ ap not (false_from_ne_true (has X x) (λ h. ne (only.only x h))) in
    record {
      holds = others (pair_at ps j).0 (both j lj).0 (ordered.fresh j j (omega arith) lj);
      misses = has-complement X (pair_at ps j).1 (omega (arith, (both j lj).1)) ∙ ap not only.here;
      others = λ k l ne.
          let lk : k < length ps = omega arith in
          others (pair_at ps k).0 (both k lk).0 (ordered.fresh k j (omega arith) lj) ∙ sym (others (pair_at ps k).1 (both k lk).1 (ordered.apart k j (omega arith) lj));
    }

-- where pair k leads is on the side from which it leads
pub cut_more : {u j k : ℕ} {ps : List (ℕ × ℕ × ℕ)} (X : List Bool) → IsOrdered u ps (length ps) → j < k → k < length ps → (pair_at ps k).1 < length X → IsCutAt ps j k X → IsCutAt ps j (k + 1) (slice_set X (pair_at ps k).1 (has X (pair_at ps k).0))
cut_more {u} {j} {k} {ps} X ordered jk lk within cut =
    let Z = slice_set X (pair_at ps k).1 (has X (pair_at ps k).0) in
    let kept : (x : ℕ) → x ≢ (pair_at ps k).1 → has Z x ≡ has X x = λ x ne. get_or-set_other X (pair_at ps k).1 x (has X (pair_at ps k).0) false ne in
    let first : (m : ℕ) → m ≤ k → has Z (pair_at ps m).0 ≡ has X (pair_at ps m).0 = λ m l. kept (pair_at ps m).0 (ordered.fresh m k l lk) in
    let second : (m : ℕ) → m < k → has Z (pair_at ps m).1 ≡ has X (pair_at ps m).1 = λ m l. kept (pair_at ps m).1 (ordered.apart m k l lk) in
    record {
      holds = first j (omega arith) ∙ cut.holds;
      misses = second j jk ∙ cut.misses;
      others = λ m l ne. elim (cases_eq m k) [
        | inl e ↦ rw e (first k (omega arith) ∙ sym (get_or-set_same X (pair_at ps k).1 (has X (pair_at ps k).0) false within))
        | inr other ↦ first m (omega arith) ∙ cut.others m (omega arith) ne ∙ sym (second m (omega arith))
      ];
    }
