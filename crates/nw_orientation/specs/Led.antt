-- Directions led back through a node that was split off. No public clause cites it.
use Rattle.std.specs.Prelude.{ℕ, ◌≡◌, ◌<◌, ◌==◌, ◌&&◌, Bool, cond, List, [], ◌∷◌, length, count_by}
use Rattle.graph_core.specs.Graph.{line_of}
use Rattle.graph_core.specs.declared.graph.Line.{Line}
use Rattle.problem_defs.specs.Orient.{turn, turned}
use Rattle.nw_orientation.specs.Chosen.{first, rest}
use Rattle.nw_orientation.specs.Moved.{moved}

-- the pairs as arcs: one of two different nodes goes as the next mark says, and one of equal nodes takes no mark
abbrev pub led : List (ℕ × ℕ) → List Bool → List Line
led [] hs = []
led (p ∷ pairs) hs = turn (line_of p) (first hs) ∷ led pairs (cond (p.0 == p.1) hs (rest hs))

-- an arc to z from the node w of those that are left
abbrev pub arrives : ℕ → ℕ → ℕ → Line → Bool
arrives z q w l = (l.head == z) && (moved z q l.tail == w)

-- from each node w of those that are left, so many arcs go to z as arcs have the tail w
pub record AreClaimed (z q : ℕ) (spokes : List Line) (tails : ℕ → ℕ) (hs : List Bool) : Type 0 where
  pub long : length hs ≡ length spokes
  pub arrivals : (w : ℕ) → w < q → count_by (arrives z q w) (turned spokes hs) ≡ tails w
