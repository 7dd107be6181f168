-- Where tight sides of a star are disjoint and hold each node with a count, the counts are what the sides lack.
use Rattle.std.specs.Prelude.{ℕ, ◌≡◌, ◌+◌, ◌-◌, ◌<◌, ◌≤◌, Bool, true, List, length, replicate, slice_index, sum, sum_by, All}
use Rattle.std.proofs.Common.{sym, ap, ◌∙◌, arith}
use Rattle.std.proofs.lemmas.List.Elements.{All-weaker}
use Rattle.graph_core.specs.Side.{sum_over, IsProper}
use Rattle.graph_core.specs.Families.{members_with}
use Rattle.graph_core.proofs.Counting.{sum_by-agree, sum_by-le_each}
use Rattle.graph_core.proofs.FamilyLaws.{sums_are, sums_le}
use Rattle.graph_core.proofs.WeightLaws.{nodes_all}
use Rattle.cut_fn.specs.Covered.{IsCovered, IsTight, AreTight}

-- what disjoint proper sides lack is at most the sum of counts that make the star k-covered
pub lack_le : {n k : ℕ} (h : List Bool → ℕ) (counts : List ℕ) (P : List (List Bool)) → length counts ≡ n → IsCovered n k (λ X. h X + sum_over X (slice_index counts))
    → All (IsProper n) P → ((v : ℕ) → v < n → members_with v P ≤ 1) → sum_by (λ X. k - h X) P ≤ sum counts
lack_le {n} {k} h counts P long covered proper disjoint =
    let w = slice_index counts in
    omega (
      arith,
      sum_by-le_each (λ X. k - h X) (λ X. sum_over X w) P (All-weaker (IsProper n) (λ X. k - h X ≤ sum_over X w) (λ X p. let c = covered X p in omega arith) P proper),
      sums_le n w P (All-weaker (IsProper n) (λ X. length X ≡ n) (λ X p. p.long) P proper) disjoint,
      ap (λ m. sum_over (replicate m true) w) long,
      nodes_all counts,
    )

-- so the counts of a star, where h counts the lines at a side, are what its disjoint tight sides lack
pub counts_lack : {n k : ℕ} (h : List Bool → ℕ) (counts : List ℕ) (P : List (List Bool)) → length counts ≡ n → AreTight n k (λ X. h X + sum_over X (slice_index counts)) P
    → ((v : ℕ) → v < n → 1 ≤ slice_index counts v → members_with v P ≡ 1) → sum counts ≡ sum_by (λ X. k - h X) P
counts_lack {n} {k} h counts P long tight once_each =
    let f : List Bool → ℕ = λ X. h X + sum_over X (slice_index counts) in
    sym (
    sum_by-agree (λ X. k - h X) (λ X. sum_over X (slice_index counts)) P (All-weaker (IsTight n k f) (λ X. k - h X ≡ sum_over X (slice_index counts)) (λ X t. let e = t.value in omega arith) P tight.each)
    ∙ sums_are n (slice_index counts) P (All-weaker (IsTight n k f) (λ X. length X ≡ n) (λ X t. t.proper.long) P tight.each) once_each
    ∙ ap (λ m. sum_over (replicate m true) (slice_index counts)) (sym long)
    ∙ nodes_all counts
    )
