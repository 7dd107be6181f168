-- Whether each side that parts two nodes has as many edges as a number. No public clause cites it.
use Rattle.std.specs.Prelude.{ℕ, ◌≡◌, ◌<◌, ◌≤◌, Bool, true, false, List, length, Option, None, Some}
use Rattle.graph_core.specs.Connected.{IsEdgeConnected}
use Rattle.graph_core.specs.Lines.{degree}
use Rattle.graph_core.specs.Side.{has, IsProper}
use Rattle.graph_core.specs.declared.graph.Line.{Line}

-- each side that holds a and misses b has at least c edges
abbrev pub AreEdgeJoined : ℕ → List Line → ℕ → ℕ → ℕ → Type 0
AreEdgeJoined n ls a b c = (X : List Bool) → length X ≡ n → has X a ≡ true → has X b ≡ false → c ≤ degree X ls

-- a proper side with fewer than c edges
pub record IsSparseCut (n : ℕ) (ls : List Line) (c : ℕ) (X : List Bool) : Type 0 where
  pub proper : IsProper n X
  pub few : degree X ls < c

-- such a side, which holds a and misses b
pub record PartsSparsely (n : ℕ) (ls : List Line) (a b c : ℕ) (X : List Bool) : Type 0 where
  pub cut : IsSparseCut n ls c X
  pub holds : has X a ≡ true
  pub misses : has X b ≡ false

abbrev pub AreParted : ℕ → List Line → ℕ → ℕ → ℕ → Type 0
AreParted n ls a b c = (X : List Bool) × PartsSparsely n ls a b c X

-- a sparse side, or none where there is none
abbrev pub FindsSparseCut : ℕ → List Line → ℕ → Option (List Bool) → Type 0
FindsSparseCut n ls c (Some X) = IsSparseCut n ls c X
FindsSparseCut n ls c None = IsEdgeConnected c n ls
