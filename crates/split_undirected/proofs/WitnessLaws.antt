-- Two dangerous sides of a node take a third, and have no fewer nodes.
use Rattle.std.specs.Prelude.{ℕ, ◌≡◌, ◌≤◌, Bool, true, false, ◌||◌, List, replicate}
use Rattle.std.proofs.Common.{inl, inr}
use Rattle.std.proofs.lemmas.Bool.{cases_Bool, or_cases, or_left, or_right}
use Rattle.std.proofs.lemmas.List.{length-replicate}
use Rattle.graph_core.specs.Side.{has}
use Rattle.graph_core.proofs.SideLaws.{has-none}
use Rattle.split_undirected.specs.CoveredStar.{IsCoveredStar, IsDangerous, IsWitness, AreWitnesses, IsWider}
use Rattle.split_undirected.proofs.Lovasz.{one_within}

pub no_witness : {n k : ℕ} {f : List Bool → ℕ} {u : ℕ} → IsWitness n k f u (replicate n false)
no_witness {n} = record { long = length-replicate n false; either = inl (has-none n) }

module _ {n k : ℕ} {f : List Bool → ℕ} {u : ℕ} (X Y Z : List Bool) (wit : AreWitnesses n k f u X Y) (danger : IsDangerous n k f u Z) where
  took : IsWitness n k f u Z
  took = record { long = danger.proper.long; either = inr danger }

  -- X doesn't lie within the union of Y and Z, so Y lies within that of X and Z
  pub take_far : {w : ℕ → ℕ} → IsCoveredStar n k f w → 2 ≤ k → 1 ≤ w u → (x : ℕ) → has X x ≡ true → has Y x ≡ false → has Z x ≡ false → (v : ℕ) → has Z v ≡ true → has X v ≡ false → has Y v ≡ false
      → AreWitnesses n k f u X Z × IsWider X Y X Z × ((has X v || has Z v) ≡ true)
  take_far {w} star two some x xx yx zx v zv xv yv = (
    record { near = wit.near; far = took },
    (λ y h. elim (or_cases (has X y) (has Y y) h) [ inl in_x ↦ or_left (has X y) (has Z y) in_x | inr in_y ↦ inside y in_y ]),
    or_right (has X v) (has Z v) zv,
  )
    where
      inside : (y : ℕ) → has Y y ≡ true → (has X y || has Z y) ≡ true
      inside y in_y =
          elim (cases_Bool (has X y)) [
            | inl in_x ↦ or_left (has X y) (has Z y) in_x
            | inr out_x ↦ elim (cases_Bool (has Z y)) [
              | inl in_z ↦ or_right (has X y) (has Z y) in_z
              | inr out_z ↦ elim wit.near.either [
                | inl none ↦ absurd (cc (none x, xx))
                | inr dx ↦ elim wit.far.either [
                  | inl none ↦ absurd (cc (none y, in_y))
                  | inr dy ↦ absurd (one_within star two u some X Y Z dx dy danger x y v xx yx zx in_y out_x out_z zv xv yv)
                ]
              ]
            ]
          ]
