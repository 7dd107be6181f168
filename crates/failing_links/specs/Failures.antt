-- A number of links, as the most disjoint walks and as a least cut.
use Rattle.std.specs.Prelude.{ℕ, ◌≡◌, ◌≤◌, Bool, List, length}
use Rattle.graph_core.specs.Graph.{GraphValue}
use Rattle.problem_defs.specs.Flow.{IsFeasible, IsDual, bound}

-- so many walks from s to t share no line, and no more do
pub record IsMostWalks (s t : ℕ) (g : GraphValue) (count : ℕ) : Type 0 where
  pub walks : List (List ℕ)
  pub feasible : IsFeasible s t g walks
  pub many : length walks ≡ count
  pub most : (others : List (List ℕ)) → IsFeasible s t g others → length others ≤ count

-- so many lines leave a side with s and without t, and each such side is left by at least as many
pub record IsLeastCutSize (s t : ℕ) (g : GraphValue) (count : ℕ) : Type 0 where
  pub side : List Bool
  pub dual : IsDual s t g side
  pub crossed : bound g side ≡ count
  pub least : (X : List Bool) → IsDual s t g X → count ≤ bound g X
