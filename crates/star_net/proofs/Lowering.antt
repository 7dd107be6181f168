-- The count of a node is lowered by what the sides that hold it have to spare.
use Rattle.std.specs.Prelude.{ℕ, ◌≡◌, ◌≢◌, ◌+◌, ◌-◌, ◌^◌, ◌<◌, ◌≤◌, Bool, true, false, List, [], ◌∷◌, ◌++◌, length, replicate, slice_index, slice_set, All}
use Rattle.std.proofs.Common.{ap, ◌∙◌, inl, inr, arith}
use Rattle.std.proofs.lemmas.Bool.{cases_Bool, cases_eq, cases_lt}
use Rattle.std.proofs.lemmas.List.{length-set, length-replicate, get_or-replicate, get_or_past, get_or_default, get_or-set_same, get_or-set_other}
use Rattle.std.proofs.lemmas.List.Sums.{sum_by-cons, sum_by-append}
use Rattle.std.proofs.lemmas.List.Elements.{All-nil, All-cons, All-append, All-weaker, All-from_get_or}
use Rattle.graph_core.specs.Families.{members_with}
use Rattle.graph_core.specs.Side.{has}
use Rattle.graph_core.proofs.Counting.{weight}
use Rattle.graph_core.proofs.HeadLaws.{node-le-sum}
use Rattle.graph_core.proofs.WeightLaws.{nodes_changed}
use Rattle.cut_fn.specs.Covered.{IsCovered, IsTight}
use Rattle.flow_cuts.specs.StarValues.{with_counts}
use Rattle.star_net.specs.LeastProper.{IsLeastProper}
use Rattle.star_net.specs.Lowered.{IsLowered}

pub small_counts : {n k v : ℕ} {h : List Bool → ℕ} {counts : List ℕ} {family : List (List Bool)} → IsLowered n k h v counts family → k ≤ 65536 → All (λ count. count < 2 ^ 32) counts
small_counts {n} {k} {v} {h} {counts} s small = All-from_get_or (λ count. count < 2 ^ 32) counts 0 (λ j l. omega (arith, s.most j))

-- count k at each node, and no member
pub lowered_first : (n k : ℕ) (h : List Bool → ℕ) → IsLowered n k h 0 (replicate n k) []
lowered_first n k h = record {
  long = length-replicate n k;
  most = λ u.
      elim (cases_lt u n) [
        | inl l ↦ omega (arith, get_or-replicate n u k 0 l)
        | inr past ↦ omega (arith, get_or_past (replicate n k) u 0 (omega (arith, length-replicate n k)))
      ];
  covered = λ X p.
      let (j, l, e) = p.some_in in
      let i : has X j ≡ true = get_or_default X j false true l ∙ e in
      omega (arith, node-le-sum (slice_index (replicate n k)) X j i, get_or-replicate n j k 0 (omega (arith, p.long)));
  tight = record { each = All-nil (IsTight n k (with_counts h (replicate n k))) };
  found = λ u l. absurd (omega arith);
}

module _ {n k v value : ℕ} {h : List Bool → ℕ} {counts : List ℕ} {family : List (List Bool)} {side : List Bool}
    (s : IsLowered n k h v counts family) (l : v < n) (a : IsLeastProper n (with_counts h counts) v (k + slice_index counts v) value side) where
  abbrev lowered_counts : List ℕ
  lowered_counts = slice_set counts v (k + slice_index counts v - value)

  low : k ≤ value
  low = elim (cases_lt value (k + slice_index counts v)) [
    | inl short ↦ (let p = a.reached short in omega (arith, s.covered side p.proper, p.value_is))
    | inr none ↦ omega arith
  ]

  below : v < length counts
  below = omega (arith, s.long)

  here : slice_index lowered_counts v ≡ k + slice_index counts v - value
  here = get_or-set_same counts v (k + slice_index counts v - value) 0 below

  others : (u : ℕ) → u ≢ v → slice_index lowered_counts u ≡ slice_index counts u
  others u ne = get_or-set_other counts v u (k + slice_index counts v - value) 0 ne

  value_in : (X : List Bool) → has X v ≡ true → with_counts h lowered_counts X + value ≡ with_counts h counts X + k
  value_in X i =
      let changed = rw i at (nodes_changed (slice_index counts) (slice_index lowered_counts) v others X) in
      omega (arith, changed, here, a.stopped)

  value_out : (X : List Bool) → has X v ≡ false → with_counts h lowered_counts X ≡ with_counts h counts X
  value_out X o =
      let changed = rw o at (nodes_changed (slice_index counts) (slice_index lowered_counts) v others X) in
      omega (arith, changed)

  covered_still : IsCovered n k (with_counts h lowered_counts)
  covered_still X p =
      elim (cases_Bool (has X v)) [
        | inl i ↦ omega (arith, value_in X i, a.least X p i)
        | inr o ↦ omega (arith, value_out X o, s.covered X p)
      ]

  tight_still : (X : List Bool) → IsTight n k (with_counts h counts) X → IsTight n k (with_counts h lowered_counts) X
  tight_still X t =
      record {
        proper = t.proper;
        value = (elim (cases_Bool (has X v)) [
          | inl i ↦ omega (arith, value_in X i, t.value, low, covered_still X t.proper)
          | inr o ↦ omega (arith, value_out X o, t.value)
        ]);
      }

  most_still : (u : ℕ) → slice_index lowered_counts u ≤ k
  most_still u =
      elim (cases_eq u v) [
        | inl e ↦ rw e (omega (arith, here, low, s.most v))
        | inr ne ↦ omega (arith, others u ne, s.most u)
      ]

  -- the family as it was, where the count becomes 0
  lowered_to_none : k + slice_index counts v ≤ value → IsLowered n k h (v + 1) lowered_counts family
  lowered_to_none none = record {
    long = length-set counts v (k + slice_index counts v - value) ∙ s.long;
    most = most_still;
    covered = covered_still;
    tight = record { each = All-weaker (IsTight n k (with_counts h counts)) (IsTight n k (with_counts h lowered_counts)) tight_still family s.tight.each };
    found = λ u lu some.
        elim (cases_lt u v) [
          | inl lt ↦ s.found u lt (omega (arith, others u (λ e. absurd (omega arith))))
          | inr ge ↦ (let same : u ≡ v = omega arith in let zero : slice_index lowered_counts u ≡ 0 = rw same (omega (arith, here)) in absurd (omega arith))
        ];
  }

  -- one member more
  lowered_to_some : value < k + slice_index counts v → IsLowered n k h (v + 1) lowered_counts (family ++ side ∷ [])
  lowered_to_some short =
      let p = a.reached short in
      let tight : IsTight n k (with_counts h lowered_counts) side = record { proper = p.proper; value = omega (arith, value_in side p.holds, p.value_is) } in
      let more : (u : ℕ) → members_with u (family ++ side ∷ []) ≡ members_with u family + weight (has side u) = λ u.
      omega (arith, sum_by-append (λ X. weight (has X u)) family (side ∷ []), sum_by-cons (λ X. weight (has X u)) side []) in
      record {
        long = length-set counts v (k + slice_index counts v - value) ∙ s.long;
        most = most_still;
        covered = covered_still;
        tight = record {
          each = All-append (IsTight n k (with_counts h lowered_counts)) family (side ∷ [])
              (All-weaker (IsTight n k (with_counts h counts)) (IsTight n k (with_counts h lowered_counts)) tight_still family s.tight.each)
              (All-cons (IsTight n k (with_counts h lowered_counts)) side [] tight (All-nil (IsTight n k (with_counts h lowered_counts))));
        };
        found = λ u lu some.
            elim (cases_lt u v) [
              | inl lt ↦ omega (arith, more u, s.found u lt (omega (arith, others u (λ e. absurd (omega arith)))))
              | inr ge ↦ (let same : u ≡ v = omega arith in let one : weight (has side u) ≡ 1 = rw same (ap weight p.holds) in omega (arith, more u))
            ];
      }

  pub lowered_next : (counts' : List ℕ) (family' : List (List Bool)) → counts' ≡ lowered_counts
      → (k + slice_index counts v ≤ value → family' ≡ family) → (value < k + slice_index counts v → family' ≡ family ++ side ∷ [])
      → IsLowered n k h (v + 1) counts' family'
  lowered_next counts' family' is kept pushed =
      elim (cases_lt value (k + slice_index counts v)) [
        | inl short ↦ rw (is, pushed short) (lowered_to_some short)
        | inr none ↦ rw (is, kept none) (lowered_to_none none)
      ]
