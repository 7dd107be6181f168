-- The heads of arcs, as those of a spanning arborescence are. No public clause cites it.
use Rattle.std.specs.Prelude.{ℕ, ◌≡◌, ◌<◌, ◌==◌, List, if◌then◌else◌}
use Rattle.graph_core.specs.Trees.{in_degree}
use Rattle.graph_core.specs.declared.graph.Line.{Line}

-- of n nodes, each but r is the head of exactly one of the arcs, and r of none
abbrev pub IsHeaded : ℕ → ℕ → List Line → Type 0
IsHeaded n r ls = (v : ℕ) → v < n → in_degree v ls ≡ (if v == r then 0 else 1)
