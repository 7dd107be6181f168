-- How many forests a class asks for. No public clause cites it.
use Rattle.std.specs.Prelude.{ℕ, ◌-◌, ◌≤◌, Bool, List, cond, nat_lt, slice_index_or, All, [], length, ◌<◌}
use Rattle.std.specs.Int.{div_ceil}
use Rattle.graph_core.specs.Side.{size}
use Rattle.graph_core.specs.Lines.{induced}
use Rattle.graph_core.specs.declared.graph.Line.{Line}

-- i(X) / (|X| - 1), rounded up, and 0 for a single node
abbrev pub demand : List Line → List Bool → ℕ
demand ls X = cond (nat_lt 1 (size X)) (div_ceil (induced X ls) (size X - 1)) 0

-- a class that asks for most
pub record IsDensest (ls : List Line) (P : List (List Bool)) (best : ℕ) : Type 0 where
  pub below : best < length P
  pub most : All (λ X. demand ls X ≤ demand ls (slice_index_or P best [])) P
