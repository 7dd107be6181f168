-- Pairs that join the classes of a partition in a row. No public clause cites it.
use Rattle.std.specs.Prelude.{ℕ, ◌≡◌, ◌+◌, ◌-◌, ◌<◌, Bool, true, List, length, slice_index_or}
use Rattle.graph_core.specs.Side.{has}
use Rattle.cut_fn.specs.Members.{member}

-- the pair at a place
abbrev pub joined_at : List (ℕ × ℕ) → ℕ → ℕ × ℕ
joined_at pairs j = slice_index_or pairs j (0, 0)

-- pair j is of a node of class j and a node of class j + 1
pub record AreInRow (P : List (List Bool)) (pairs : List (ℕ × ℕ)) : Type 0 where
  pub many : length pairs ≡ length P - 1
  pub first : (j : ℕ) → j < length pairs → has (member P j) (joined_at pairs j).0 ≡ true
  pub second : (j : ℕ) → j < length pairs → has (member P (j + 1)) (joined_at pairs j).1 ≡ true
