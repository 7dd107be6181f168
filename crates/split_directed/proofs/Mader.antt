-- Mader's theorem on splitting off, for a pair of opposite functions with counts of the nodes of equal sums.
use Rattle.std.specs.Prelude.{ℕ, ◌≡◌, ◌+◌, ◌<◌, ◌≤◌, Bool, true, false, not, ◌&&◌, ◌||◌, List, length, slice_index, sum, refl}
use Rattle.std.proofs.Common.{sym, ◌∙◌, inl, inr, arith}
use Rattle.std.proofs.lemmas.Bool.{cases_Bool, cases_lt}
use Rattle.std.proofs.lemmas.Simd.{length-zip2}
use Rattle.graph_core.specs.Side.{has, meet, join, minus, complement, sum_over, IsProper}
use Rattle.graph_core.proofs.SideLaws.{has-zip2, has-minus, has-below}
use Rattle.cut_fn.specs.Covered.{IsCovered, IsTight}
use Rattle.cut_fn.proofs.Uncrossing.{union_tight}
use Rattle.graph_core.proofs.HeadLaws.{node-le-sum}
use Rattle.graph_core.proofs.ProperLaws.{is_proper, proper-complement}
use Rattle.graph_core.proofs.NodeCounts.{sum_complement, nodes_split, some_outside}
use Rattle.graph_core.proofs.WeightLaws.{nodes_meet}
use Rattle.cut_fn.proofs.Opposite.{AreOpposite, exchanged}

-- a function of sides with the sum of counts over the side
abbrev pub plus : (List Bool → ℕ) → List ℕ → List Bool → ℕ
plus f a X = f X + sum_over X (slice_index a)

-- both functions are covered with their counts
pub record AreCovered (n k : ℕ) (f g : List Bool → ℕ) (a b : List ℕ) : Type 0 where
  pub opposite : AreOpposite n f g
  pub first_long : length a ≡ n
  pub second_long : length b ≡ n
  pub first : IsCovered n k (plus f a)
  pub second : IsCovered n k (plus g b)

pub turn_about : {n k : ℕ} {f g : List Bool → ℕ} {a b : List ℕ} → AreCovered n k f g a b → AreCovered n k g f b a
turn_about p = record { opposite = exchanged p.opposite; first_long = p.second_long; second_long = p.first_long; first = p.second; second = p.first }

neither : (x y : Bool) → (x || y) ≡ false → (x ≡ false) × (y ≡ false)
neither true y e = absurd cc
neither false y e = (refl, e)

module _ {n k : ℕ} {f g : List Bool → ℕ} {a b : List ℕ} (p : AreCovered n k f g a b) where
  -- the sum of both counts over a side exceeds the whole second sum by no more than its value exceeds k
  pub both_counts : (X : List Bool) → IsProper n X → sum_over X (slice_index a) + sum_over X (slice_index b) + k ≤ plus f a X + sum b
  both_counts X x =
      omega (
        arith,
        p.second (complement X) (proper-complement X x),
        p.opposite.turned X x.long,
        sum_complement b X (x.long ∙ sym p.second_long),
      )

  -- a side of a value below k + m that holds a node of count m misses a node of positive second count
  pub missed_count : (X : List Bool) (x m : ℕ) → IsProper n X → has X x ≡ true → m ≤ slice_index a x → plus f a X < k + m
      → (v : ℕ) × (v < n) × (has X v ≡ false) × (1 ≤ slice_index b v)
  missed_count X x m is h le short =
      let (v, l, out, some) = some_outside b X (is.long ∙ sym p.second_long) (omega (arith, both_counts X is, node-le-sum (slice_index a) X x h)) in
      (v, omega (arith, is.long), out, some)

  -- two tight sides with a common node of positive count, and equal sums: a node is in neither
  pub not_whole : (X Y : List Bool) (t : ℕ) → sum a ≡ sum b → IsTight n k (plus f a) X → IsTight n k (plus f a) Y → has X t ≡ true → has Y t ≡ true
      → 1 ≤ slice_index a t + slice_index b t
      → (v : ℕ) × (v < n) × (has X v ≡ false) × (has Y v ≡ false)
  not_whole X Y t same x y hx hy some =
      let e : length X ≡ length Y = x.proper.long ∙ sym y.proper.long in
      let joined : length (join X Y) ≡ n = length-zip2 ◌||◌ X Y e ∙ x.proper.long in
      let both : has (meet X Y) t ≡ true = has-zip2 ◌&&◌ refl X Y t e ∙ (λ i. hx i && hy i) in
      let more : (counts : List ℕ) → length counts ≡ n → sum_over (join X Y) (slice_index counts) < sum counts → (v : ℕ) × (v < n) × (has X v ≡ false) × (has Y v ≡ false) = λ counts long less.
      (let (v, l, out, some) = some_outside counts (join X Y) (joined ∙ sym long) less in
      let (outX, outY) = neither (has X v) (has Y v) (sym (has-zip2 ◌||◌ refl X Y v e) ∙ out) in
      (v, omega (arith, joined), outX, outY)) in
      elim (cases_lt (sum_over (join X Y) (slice_index a)) (sum a)) [
        | inl less ↦ more a p.first_long less
        | inr all ↦ more b p.second_long (omega (
          arith,
          both_counts X x.proper,
          both_counts Y y.proper,
          x.value,
          y.value,
          nodes_meet (slice_index a) X Y e,
          nodes_meet (slice_index b) X Y e,
          node-le-sum (slice_index a) (meet X Y) t both,
          node-le-sum (slice_index b) (meet X Y) t both,
        ))
      ]

  -- so their union is tight
  pub joined_tight : (X Y : List Bool) (t : ℕ) → sum a ≡ sum b → IsTight n k (plus f a) X → IsTight n k (plus f a) Y → has X t ≡ true → has Y t ≡ true
      → 1 ≤ slice_index a t + slice_index b t → IsTight n k (plus f a) (join X Y)
  joined_tight X Y t same x y hx hy some =
      let (v, l, outX, outY) = not_whole X Y t same x y hx hy some in
      let law = p.opposite.first X Y x.proper.long y.proper.long in
      let nodes = nodes_meet (slice_index a) X Y (x.proper.long ∙ sym y.proper.long) in
      union_tight p.first X Y x y (omega (arith, law, nodes)) (record { node = t; first = hx; second = hy }) (record { node = v; below = l; first = outX; second = outY })

  -- of two tight sides of either kind with a common node of positive count, neither has a node that the other lacks while the other has one that it lacks
  pub nested : (X Y : List Bool) (t u v : ℕ) → IsTight n k (plus f a) X → IsTight n k (plus g b) Y → has X t ≡ true → has Y t ≡ true
      → 1 ≤ slice_index a t + slice_index b t
      → has X u ≡ true → has Y u ≡ false → has Y v ≡ true → has X v ≡ true
  nested X Y t u v x y hx hy some inX outY inY =
      let e : length X ≡ length Y = x.proper.long ∙ sym y.proper.long in
      elim (cases_Bool (has X v)) [
        | inl h ↦ h
        | inr outX ↦
            let both : has (meet X Y) t ≡ true = has-zip2 ◌&&◌ refl X Y t e ∙ (λ i. hx i && hy i) in
            let first : IsProper n (minus X Y) = is_proper (minus X Y) u v (length-zip2 (λ x y. x && not y) X Y e ∙ x.proper.long)
            (has-minus X Y u e ∙ (λ i. inX i && not (outY i))) (omega (arith, has-below Y v inY, y.proper.long)) (has-minus X Y v e ∙ (λ i. outX i && not (inY i))) in
            let second : IsProper n (minus Y X) = is_proper (minus Y X) v u (length-zip2 (λ x y. x && not y) Y X (sym e) ∙ y.proper.long)
            (has-minus Y X v (sym e) ∙ (λ i. inY i && not (outX i))) (omega (arith, has-below X u inX, x.proper.long)) (has-minus Y X u (sym e) ∙ (λ i. outY i && not (inX i))) in
            absurd (omega (
              arith,
              x.value,
              y.value,
              p.first (minus X Y) first,
              p.second (minus Y X) second,
              p.opposite.parts X Y x.proper.long y.proper.long,
              nodes_split (slice_index a) X Y e,
              nodes_split (slice_index b) Y X (sym e),
              node-le-sum (slice_index a) (meet X Y) t both,
              node-le-sum (slice_index b) (meet Y X) t (has-zip2 ◌&&◌ refl Y X t (sym e) ∙ (λ i. hy i && hx i)),
            ))
      ]

  -- a tight side with a node of positive count misses a node of positive count of either kind
  pub missed_first : (X : List Bool) (t : ℕ) → sum a ≡ sum b → IsTight n k (plus f a) X → has X t ≡ true → 1 ≤ slice_index b t
      → (v : ℕ) × (v < n) × (has X v ≡ false) × (1 ≤ slice_index a v)
  missed_first X t same x h some =
      let (v, l, out, s) = some_outside a X (x.proper.long ∙ sym p.first_long) (omega (arith, same, x.value, both_counts X x.proper, node-le-sum (slice_index b) X t h)) in
      (v, omega (arith, x.proper.long), out, s)

  pub missed_second : (X : List Bool) (t : ℕ) → IsTight n k (plus f a) X → has X t ≡ true → 1 ≤ slice_index a t
      → (v : ℕ) × (v < n) × (has X v ≡ false) × (1 ≤ slice_index b v)
  missed_second X t x h some = missed_count X t 1 x.proper h some (omega (arith, x.value))
