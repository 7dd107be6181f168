-- Mader's theorem for a star, and what the most up to a limit says of it.
use Rattle.std.specs.Prelude.{ℕ, ◌≡◌, ◌+◌, ◌<◌, ◌≤◌, Bool, true, false, ◌&&◌, ◌||◌, cond, List, [], length, slice_index, sum, refl}
use Rattle.std.proofs.Common.{sym, ap, ◌∙◌, inl, inr, arith}
use Rattle.std.proofs.lemmas.Bool.{cases_Bool, cases_lt}
use Rattle.graph_core.specs.Side.{has, join, IsProper}
use Rattle.graph_core.specs.Lines.{entering, leaving}
use Rattle.graph_core.proofs.SideLaws.{has-zip2}
use Rattle.cut_fn.specs.Covered.{IsTight}
use Rattle.problem_defs.specs.declared.cert.Way.{Way}
use Rattle.problem_defs.specs.declared.cert.Way.TheVariants.{Entering, Leaving}
use Rattle.problem_defs.specs.Ways.{opposite}
use Rattle.flow_cuts.specs.StarValues.{counts_for, value_for}
use Rattle.split_directed.specs.Ways.{same, taken_in}
use Rattle.split_directed.specs.Allowed.{Allows, IsMost}
use Rattle.cut_fn.specs.Stars.{StarValue, star_enter, star_leave}
use Rattle.flow_cuts.specs.LeastOver.{HasBoth, MissesCount}
use Rattle.split_directed.specs.State.{IsCoveredStar}
use Rattle.split_directed.specs.Turn.{IsFewest, IsMostUpTo, IsWitness, IsLeft}
use Rattle.graph_core.proofs.NodeCounts.{some_outside}
use Rattle.graph_core.proofs.WeightLaws.{nodes_cover}
use Rattle.cut_fn.proofs.Opposite.{lines_opposite}
use Rattle.split_directed.proofs.Mader.{AreCovered, turn_about, missed_count, joined_tight, nested, missed_first, missed_second}
use Rattle.split_directed.proofs.Splits.{Falls}

-- the two functions of a covered star
pub covered_enter : {n k : ℕ} {s : StarValue} → IsCoveredStar n k s → AreCovered n k (λ X. entering X s.lines) (λ X. leaving X s.lines) s.into s.out
covered_enter {n} {k} {s} c = record { opposite = lines_opposite s.lines c.fits; first_long = c.into_long; second_long = c.out_long; first = c.enters; second = c.leaves }

pub covered_leave : {n k : ℕ} {s : StarValue} → IsCoveredStar n k s → AreCovered n k (λ X. leaving X s.lines) (λ X. entering X s.lines) s.out s.into
covered_leave c = turn_about (covered_enter c)

module _ {n k : ℕ} {s : StarValue} (c : IsCoveredStar n k s) where
  -- a side that holds u and t and lacks b from either function misses a node of the other count
  pub misses : (w : Way) (u t b stop : ℕ) → b ≤ slice_index s.out u → b ≤ slice_index s.into t → stop ≤ k + b
      → MissesCount n (value_for w s) (counts_for (opposite w) s) u t stop
  misses Entering u t b stop lu lt le X x hu ht short = missed_count (covered_enter c) X t b x ht lt (omega (arith, short))
  misses Leaving u t b stop lu lt le X x hu ht short = missed_count (covered_leave c) X u b x hu lu (omega (arith, short))

  -- up to the smaller count it is the most of all
  pub most_of_all : {u t b q : ℕ} {w : Way} {X : List Bool} → IsMostUpTo n k s u t b q w X → IsFewest s.out s.into u t b → IsMost n k s u t q
  most_of_all {u} {t} {b} {q} {w} {X} m few = record {
    allowed = record { out = omega (arith, m.within, few.out_most); into = omega (arith, m.within, few.into_most); enters = m.enters; leaves = m.leaves };
    most = λ d a. elim (cases_lt q d) [ inr ge ↦ ge | inl more ↦ absurd (no_more d a more (m.blocked (omega (arith, few.greatest d a.out a.into))) w refl) ];
  }
    where
      no_more : (d : ℕ) → Allows n k s u t d → q < d → HasBoth n (value_for w s) u t (k + q) X → (v : Way) → v ≡ w → ⊥
      no_more d a more h Entering is = omega (arith, a.enters X h.proper h.first h.second, ap (λ z. value_for z s X) is, h.value_is)
      no_more d a more h Leaving is = omega (arith, a.leaves X h.proper h.first h.second, ap (λ z. value_for z s X) is, h.value_is)

  -- with equal sums a node with an arc left is outside of the witness
  pub left_outside : {t : ℕ} {w : Way} {M : List Bool} → sum s.into ≡ sum s.out → 1 ≤ slice_index s.into t → 1 ≤ sum s.into → IsWitness n k s t w M
      → (u : ℕ) × IsLeft s.out M u
  left_outside {t} {w} {M} sums some all h = elim (cases_Bool (has M t)) [
    | inl in_it ↦ found w in_it (h.tight in_it)
    | inr out_of_it ↦ (let (u, l, out, one) = some_outside s.out M (h.long ∙ sym c.out_long) (omega (arith, nodes_cover (slice_index s.out) M [] (λ v x _. absurd (cc (x, h.none out_of_it v))), sums)) in (u, record { below = omega (arith, h.long, c.out_long); outside = out; some = one }))
  ]
    where
      found : (v : Way) → has M t ≡ true → IsTight n k (value_for v s) M → (u : ℕ) × IsLeft s.out M u
      found Entering in_it tight = let (u, l, out, one) = missed_second (covered_enter c) M t tight in_it some in (u, record { below = omega (arith, c.out_long); outside = out; some = one })
      found Leaving in_it tight = let (u, l, out, one) = missed_first (covered_leave c) M t (sym sums) tight in_it some in (u, record { below = omega (arith, c.out_long); outside = out; some = one })

  -- what the witness is after it took in a tight side with t and a node that it lacked
  pub record Taken (t u : ℕ) (w : Way) (M M' : List Bool) : Type 0 where
    pub witness : IsWitness n k s t w M'
    pub kept : (v : ℕ) → has M v ≡ true → has M' v ≡ true
    pub new : has M' u ≡ true

  taken_alone : {t u : ℕ} {w' : Way} {M X : List Bool} → IsTight n k (value_for w' s) X → has X t ≡ true → has X u ≡ true
      → ((v : ℕ) → has M v ≡ true → has X v ≡ true) → Taken t u w' M X
  taken_alone {t} x xt xu kept = record { witness = record { long = x.proper.long; tight = λ _. x; none = λ out. absurd (cc (xt, out)) }; kept = kept; new = xu }

  taken_union : {t u : ℕ} {w : Way} (M X : List Bool) → IsTight n k (value_for w s) (join M X) → length M ≡ length X → has X t ≡ true
      → has X u ≡ true → Taken t u w M (join M X)
  taken_union {t} {u} {w} M X x e xt xu =
      let or_true : (b : Bool) → (b || true) ≡ true = λ b. grind arith in
      record {
        witness = record { long = x.proper.long; tight = λ _. x; none = λ out. absurd (cc (has-zip2 ◌||◌ refl M X t e ∙ (λ i. has M t || xt i) ∙ or_true (has M t), out)) };
        kept = λ v h. has-zip2 ◌||◌ refl M X v e ∙ (λ i. h i || has X v);
        new = has-zip2 ◌||◌ refl M X u e ∙ (λ i. has M u || xu i) ∙ or_true (has M u);
      }

  pub taken : {t u : ℕ} {w : Way} {M : List Bool} → (w' : Way) (X : List Bool) → sum s.into ≡ sum s.out → 1 ≤ slice_index s.into t
      → IsWitness n k s t w M → IsTight n k (value_for w' s) X → has X t ≡ true → has X u ≡ true → has M u ≡ false
      → Taken t u w' M (taken_in w M w' X t)
  taken {t} {u} {w} {M} w' X sums some h x xt xu out = go w w' (has M t) refl h x
    where
      go : (v v' : Way) (b : Bool) → b ≡ has M t → IsWitness n k s t v M → IsTight n k (value_for v' s) X → Taken t u v' M (cond (same v v' && b) (join M X) X)
      go Entering Entering true e m x = taken_union M X (joined_tight (covered_enter c) M X t sums (m.tight (sym e)) x (sym e) xt (omega arith)) (m.long ∙ sym x.proper.long) xt xu
      go Leaving Leaving true e m x = taken_union M X (joined_tight (covered_leave c) M X t (sym sums) (m.tight (sym e)) x (sym e) xt (omega arith)) (m.long ∙ sym x.proper.long) xt xu
      go Entering Leaving true e m x = taken_alone x xt xu (λ v mv. nested (covered_leave c) X M t u v x (m.tight (sym e)) xt (sym e) (omega arith) xu out mv)
      go Leaving Entering true e m x = taken_alone x xt xu (λ v mv. nested (covered_enter c) X M t u v x (m.tight (sym e)) xt (sym e) (omega arith) xu out mv)
      go Entering Entering false e m x = taken_alone x xt xu (λ v mv. absurd (cc (m.none (sym e) v, mv)))
      go Leaving Leaving false e m x = taken_alone x xt xu (λ v mv. absurd (cc (m.none (sym e) v, mv)))
      go Entering Leaving false e m x = taken_alone x xt xu (λ v mv. absurd (cc (m.none (sym e) v, mv)))
      go Leaving Entering false e m x = taken_alone x xt xu (λ v mv. absurd (cc (m.none (sym e) v, mv)))

  -- what stays covered and tight after u and t were split off as often as is allowed
  module _ {s' : StarValue} {u t q : ℕ} (f : Falls n s s' u t q) where
    pub covered_after : ((X : List Bool) → IsProper n X → has X u ≡ true → has X t ≡ true → k + q ≤ star_enter s X)
        → ((X : List Bool) → IsProper n X → has X u ≡ true → has X t ≡ true → k + q ≤ star_leave s X) → IsCoveredStar n k s'
    covered_after enters leaves = record {
      fits = f.fits c.fits;
      into_long = f.into_long ∙ c.into_long;
      out_long = f.out_long ∙ c.out_long;
      enters = λ X x. stays (has X u) (has X t) (enters X x) (c.enters X x) (f.enters X x.long);
      leaves = λ X x. stays (has X u) (has X t) (leaves X x) (c.leaves X x) (f.leaves X x.long);
    }
      where
        stays : {new old : ℕ} (a b : Bool) → (a ≡ true → b ≡ true → k + q ≤ old) → k ≤ old → new + cond (a && b) q 0 ≡ old → k ≤ new
        stays true true more le e = omega (arith, more refl refl)
        stays true false more le e = omega arith
        stays false b more le e = omega arith

    value_after : (w : Way) (X : List Bool) → length X ≡ n → value_for w s' X + cond (has X u && has X t) q 0 ≡ value_for w s X
    value_after Entering X x = f.enters X x
    value_after Leaving X x = f.leaves X x

    -- a side without u keeps its value
    pub tight_without : (w : Way) (X : List Bool) → IsTight n k (value_for w s) X → has X u ≡ false → IsTight n k (value_for w s') X
    tight_without w X x out = let fall = rw out at (value_after w X x.proper.long) in record { proper = x.proper; value = omega (arith, fall, x.value) }

    -- a side that allows no more is tight
    pub tight_both : (w : Way) (X : List Bool) → HasBoth n (value_for w s) u t (k + q) X → IsTight n k (value_for w s') X
    tight_both w X x = let fall = rw (x.first, x.second) at (value_after w X x.proper.long) in record { proper = x.proper; value = omega (arith, fall, x.value_is) }
