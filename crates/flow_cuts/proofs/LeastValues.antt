-- Least values up to a limit over the sides that hold two nodes: what a turn of the search over missed nodes keeps.
use Rattle.std.specs.Prelude.{ℕ, ◌≡◌, ◌+◌, ◌*◌, ◌<◌, ◌≤◌, ◌≢◌, ◌⊎◌, Bool, true, false, List, length, replicate, slice_index, slice_set, sum}
use Rattle.std.proofs.Common.{sym, ap, subst, ◌∙◌, inl, inr, arith}
use Rattle.std.proofs.lemmas.Bool.{cases_lt, cases_eq, cases_Bool}
use Rattle.std.proofs.lemmas.List.{length-replicate, length-set, get_or_past, get_or-set_other}
use Rattle.graph_core.specs.Side.{has, sum_over, IsProper}
use Rattle.graph_core.proofs.NodeCounts.{some_outside, sum_complement}
use Rattle.graph_core.proofs.SideLaws.{has-none}
use Rattle.graph_core.proofs.PutLaws.{put_here, put_kept}
use Rattle.graph_core.proofs.ProperLaws.{is_proper}
use Rattle.graph_core.proofs.WeightLaws.{nodes_within}
use Rattle.cut_fn.specs.TwoSides.{IsWithin}
use Rattle.flow_cuts.specs.LeastMissing.{HasMissing, IsLeastMissing}
use Rattle.flow_cuts.specs.NewNode.{value_with}
use Rattle.flow_cuts.specs.declared.network.Cap.{Cap}
use Rattle.flow_cuts.specs.LeastOver.{BoundsCounts, HasBoth, IsLeastOver, MissesCount}

-- the search over missed nodes: the nodes below w with a count are held, and so is H by each side of a value below the answer
pub record IsSearched (n : ℕ) (f : List Bool → ℕ) (counts : List ℕ) (u t stop w answer : ℕ) (H X : List Bool) : Type 0 where
  pub long : length H ≡ n
  pub first : has H u ≡ true
  pub second : has H t ≡ true
  pub stopped : answer ≤ stop
  pub held : (Y : List Bool) → IsProper n Y → has Y u ≡ true → has Y t ≡ true → f Y < answer → IsWithin H Y
  pub below : (v : ℕ) → v < w → 1 ≤ slice_index counts v → has H v ≡ true
  pub reached : answer < stop → HasBoth n f u t answer X

module _ {n u t stop w answer : ℕ} {f : List Bool → ℕ} {counts : List ℕ} {H X : List Bool} (s : IsSearched n f counts u t stop w answer H X) where
  -- a node without a count, or one that is held
  pub searched_skip : (1 ≤ slice_index counts w → has H w ≡ true) → IsSearched n f counts u t stop (w + 1) answer H X
  searched_skip skip = record {
    long = s.long;
    first = s.first;
    second = s.second;
    stopped = s.stopped;
    held = s.held;
    reached = s.reached;
    below = λ v l some. elim (cases_lt v w) [ inl lt ↦ s.below v lt some | inr ge ↦ (let e : v ≡ w = omega arith in ap (has H) e ∙ skip (rw e at some)) ];
  }

  -- a node that sides may miss
  pub searched_next : {answer' : ℕ} {X' : List Bool} → w < n → IsLeastMissing n f H w answer answer' X' → (answer ≤ answer' → X' ≡ X)
      → IsSearched n f counts u t stop (w + 1) answer' (slice_set H w true) X'
  searched_next {answer'} {X'} l least kept = record {
    long = length-set H w true ∙ s.long;
    first = put_kept H w u s.first;
    second = put_kept H w t s.second;
    stopped = omega (arith, least.stopped, s.stopped);
    held = λ Y y yu yt short. record { at = λ v h. held_next Y y yu yt short v h (cases_eq v w) };
    below = λ v lt some. elim (cases_lt v w) [ inl b ↦ put_kept H w v (s.below v b some) | inr ge ↦ (let e : v ≡ w = omega arith in ap (has (slice_set H w true)) e ∙ put_here H w (omega (arith, s.long))) ];
    reached = λ short. elim (cases_lt answer' answer) [ inl lt ↦ found (least.reached lt) | inr ge ↦ same ge short ];
  }
    where
      holds_w : (Y : List Bool) → IsProper n Y → has Y u ≡ true → has Y t ≡ true → f Y < answer' → has Y w ≡ true
      holds_w Y y yu yt short =
          elim (cases_Bool (has Y w)) [
            | inl h ↦ h
            | inr out ↦ absurd (omega (arith, least.least Y y.long (s.held Y y yu yt (omega (arith, least.stopped, short))) out, short))
          ]

      held_next : (Y : List Bool) → IsProper n Y → has Y u ≡ true → has Y t ≡ true → f Y < answer' → (v : ℕ) → has (slice_set H w true) v ≡ true
          → (v ≡ w) ⊎ (v ≢ w) → has Y v ≡ true
      held_next Y y yu yt short v h (inl e) = ap (has Y) e ∙ holds_w Y y yu yt short
      held_next Y y yu yt short v h (inr ne) = (s.held Y y yu yt (omega (arith, least.stopped, short))).at v (sym (get_or-set_other H w v true false ne) ∙ h)

      found : HasMissing n f H w answer' X' → HasBoth n f u t answer' X'
      found m = record { proper = is_proper X' u w m.long (m.holds.at u s.first) l m.misses; first = m.holds.at u s.first; second = m.holds.at t s.second; value_is = m.value_is }

      same : answer ≤ answer' → answer' < stop → HasBoth n f u t answer' X'
      same ge short =
          let e : answer ≡ answer' = omega (arith, least.stopped, ge) in
          let b = s.reached (omega (arith, short, e)) in
          subst (HasBoth n f u t answer') (sym (kept ge)) (record { proper = b.proper; first = b.first; second = b.second; value_is = b.value_is ∙ e })

-- two nodes and no other
pub record IsTwo (n u t : ℕ) (H : List Bool) : Type 0 where
  pub long : length H ≡ n
  pub first : has H u ≡ true
  pub second : has H t ≡ true
  pub only : (v : ℕ) → has H v ≡ true → (v ≡ u) ⊎ (v ≡ t)

pub two_nodes : (n u t : ℕ) (H : List Bool) → u < n → t < n → H ≡ slice_set (slice_set (replicate n false) u true) t true → IsTwo n u t H
two_nodes n u t H lu lt is =
    let none = replicate n false in
    let one = slice_set none u true in
    let long : length one ≡ n = length-set none u true ∙ length-replicate n false in
    let two : (v : ℕ) → v ≢ u → v ≢ t → has (slice_set one t true) v ≡ false = λ v nu nt. get_or-set_other one t v true false nt ∙ get_or-set_other none u v true false nu ∙ has-none n v in
    subst (IsTwo n u t) (sym is) (record {
      long = length-set one t true ∙ long;
      first = put_kept one t u (put_here none u (omega (arith, length-replicate n false)));
      second = put_here one t (omega (arith, long));
      only = λ v h. elim (cases_eq v u) [ inl e ↦ inl e | inr nu ↦ elim (cases_eq v t) [ inl e ↦ inr e | inr nt ↦ absurd (cc (two v nu nt, h)) ] ];
    })

-- so each side that holds u and t holds them
two_within : {n u t : ℕ} {H : List Bool} → IsTwo n u t H → (Y : List Bool) → has Y u ≡ true → has Y t ≡ true → IsWithin H Y
two_within two Y yu yt = record { at = λ v h. elim (two.only v h) [ inl e ↦ ap (has Y) e ∙ yu | inr e ↦ ap (has Y) e ∙ yt ] }

pub searched_start : {n u t stop : ℕ} {f : List Bool → ℕ} {counts : List ℕ} {H X : List Bool} → IsTwo n u t H → IsSearched n f counts u t stop 0 stop H X
searched_start two = record {
  long = two.long;
  first = two.first;
  second = two.second;
  stopped = omega arith;
  held = λ Y y yu yt short. two_within two Y yu yt;
  below = λ v l. absurd (omega arith);
  reached = λ short. absurd (omega arith);
}

-- where all nodes together have no less than stop, one run is enough
pub least_at_once : {n u t stop answer : ℕ} {H X : List Bool} (f : List Bool → ℕ) (counts : List ℕ) → ((Y : List Bool) → sum_over Y (slice_index counts) ≤ f Y)
    → length counts ≡ n → IsTwo n u t H → stop ≤ sum counts → IsLeastMissing n f H n stop answer X → IsLeastOver n f u t stop answer X
least_at_once {n} {u} {t} {stop} {answer} {H} {X} f counts counted long two all least = record {
  stopped = least.stopped;
  least = λ Y y yu yt. least.least Y y.long (two_within two Y yu yt) (get_or_past Y n false (omega (arith, y.long)));
  reached = λ short.
      let m = least.reached short in
      let (v, l, out, some) = some_outside counts X (m.long ∙ sym long) (omega (arith, m.value_is, counted X, short)) in
      record {
        proper = is_proper X u v m.long (m.holds.at u two.first) (omega (arith, m.long)) out;
        first = m.holds.at u two.first;
        second = m.holds.at t two.second;
        value_is = m.value_is;
      };
}

-- at the end no proper side has less, since those with a value below the answer hold all nodes with a count
pub searched_done : {n u t stop answer : ℕ} {f : List Bool → ℕ} {counts : List ℕ} {H X : List Bool} → MissesCount n f counts u t stop
    → IsSearched n f counts u t stop n answer H X → IsLeastOver n f u t stop answer X
searched_done {n} {u} {t} {stop} {answer} {f} missed s = record {
  stopped = s.stopped;
  least = λ Y y yu yt.
      elim (cases_lt (f Y) answer) [
        | inl less ↦ (let (v, l, out, some) = missed Y y yu yt (omega (arith, s.stopped)) in absurd (cc ((s.held Y y yu yt less).at v (s.below v l some), out)))
        | inr more ↦ more
      ];
  reached = s.reached;
}

-- nor has one before the end, where so many of the counts are held
pub searched_heavy : {n u t stop w answer : ℕ} {f : List Bool → ℕ} {counts : List ℕ} {H X : List Bool} (k : ℕ) (c : List ℕ) → BoundsCounts n k f c
    → sum c + answer ≤ 2 * sum_over H (slice_index c) + k → IsSearched n f counts u t stop w answer H X → IsLeastOver n f u t stop answer X
searched_heavy {n} {u} {t} {stop} {w} {answer} {f} {counts} {H} k c bound heavy s = record {
  stopped = s.stopped;
  least = λ Y y yu yt.
      elim (cases_lt (f Y) answer) [
        | inl less ↦ absurd (omega (arith, bound Y y, nodes_within (slice_index c) H Y (s.held Y y yu yt less).at))
        | inr more ↦ more
      ];
  reached = s.reached;
}

-- with k = 0 nothing is asked of a network
pub bounds_none : {n : ℕ} (arcs : List Cap) (counts : List ℕ) → length counts ≡ n → BoundsCounts n 0 (value_with arcs counts) counts
bounds_none arcs counts long X proper = omega (arith, sum_complement counts X (proper.long ∙ sym long))
