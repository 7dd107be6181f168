-- The partition with which a search for spanning trees begins. No public clause cites it.
use Rattle.std.specs.Prelude.{ℕ, ◌≡◌, ◌-◌, ◌/◌, ◌≤◌, Bool, List, length}
use Rattle.graph_core.specs.Graph.{GraphValue}
use Rattle.graph_core.specs.Side.{IsOnly, IsProper}
use Rattle.graph_core.specs.Lines.{degree}
use Rattle.problem_defs.specs.Trees.{IsDual, bound}

-- it allows no more trees than the single nodes do
abbrev pub IsWithinSingles : GraphValue → List (List Bool) → Type 0
IsWithinSingles g P = bound g P ≤ length g.lines / (length g.names - 1)

-- it allows no more trees than a node against the rest does, whichever the node
abbrev pub IsWithinNodes : GraphValue → List (List Bool) → Type 0
IsWithinNodes g P = (X : List Bool) (v : ℕ) → length X ≡ length g.names → IsOnly X v → bound g P ≤ degree X g.lines

-- and it allows none where some side has no line to the rest
pub record IsStart (g : GraphValue) (P : List (List Bool)) : Type 0 where
  pub dual : IsDual g P
  pub singles : IsWithinSingles g P
  pub nodes : IsWithinNodes g P
  pub apart : (X : List Bool) → IsProper (length g.names) X → degree X g.lines ≡ 0 → bound g P ≡ 0
