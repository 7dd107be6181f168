-- Pairs of nodes, and weighted pairs.
use Rattle.std.specs.Prelude.{ℕ, ◌<◌, ◌≤◌, ◌==◌, not, List, slice_index_or, replicate, All}
use Rattle.std.specs.List.{filter, flat_map}

-- the pairs of different nodes
abbrev pub apart : List (ℕ × ℕ) → List (ℕ × ℕ)
apart pairs = filter (λ p. not (p.0 == p.1)) pairs

abbrev pub no_pair : ℕ × ℕ × ℕ
no_pair = (0, 0, 0)

-- the weighted pair at a place
abbrev pub pair_at : List (ℕ × ℕ × ℕ) → ℕ → ℕ × ℕ × ℕ
pair_at pairs j = slice_index_or pairs j no_pair

-- the weighted pairs are of n nodes
abbrev pub AreIn : ℕ → List (ℕ × ℕ × ℕ) → Type 0
AreIn n pairs = All (λ p. (p.0 < n) × (p.1 < n)) pairs

-- two of n nodes, at least once
pub record IsRow (n : ℕ) (r : ℕ × ℕ × ℕ) : Type 0 where
  pub first : r.0 < n
  pub second : r.1 < n
  pub some : 1 ≤ r.2

-- what rows stand for: a row (u, v, q) for q pairs (u, v)
abbrev pub pairs_of : List (ℕ × ℕ × ℕ) → List (ℕ × ℕ)
pairs_of rows = flat_map (λ r. replicate r.2 (r.0, r.1)) rows
