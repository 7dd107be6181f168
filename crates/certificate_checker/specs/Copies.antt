-- How many lines lead from a node to another, counted up to a limit. No public clause cites it.
use Rattle.std.specs.Prelude.{ℕ, suc, ◌≡◌, ◌+◌, ◌/◌, ◌%◌, ◌<◌, ◌≤◌, ◌⊎◌, Bool, not, ◌&&◌, List, [], ◌∷◌, length, All}
use Rattle.graph_core.specs.Side.{has, IsProper}
use Rattle.graph_core.specs.Lines.{differ, degree, entering}
use Rattle.graph_core.specs.declared.graph.Kind.{Kind}
use Rattle.graph_core.specs.declared.graph.Kind.TheVariants.{Undirected, Directed}
use Rattle.graph_core.specs.declared.graph.Line.{Line}
use Rattle.graph_core.proofs.Counting.{weight}
use Rattle.flow_cuts.specs.Network.{across, capacity}
use Rattle.flow_cuts.specs.declared.network.Cap.{Cap}

-- the edges that cross a side, or the arcs that enter it
abbrev pub cut_count : Kind → List Bool → List Line → ℕ
cut_count Undirected X ls = degree X ls
cut_count Directed X ls = entering X ls

-- the same of one line
abbrev pub line_count : Kind → List Bool → ℕ → ℕ → ℕ
line_count Undirected X u v = weight (differ (has X u) (has X v))
line_count Directed X u v = weight (has X v && not (has X u))

-- k-edge-connected, or k-arc-connected
abbrev pub IsKConnected : Kind → ℕ → ℕ → List Line → Type 0
IsKConnected kind k n ls = (X : List Bool) → IsProper n X → k ≤ cut_count kind X ls

-- the sum of a weight of places and the numbers there
abbrev pub weighed : (ℕ → ℕ → ℕ) → List ℕ → ℕ
weighed w [] = 0
weighed w (c ∷ table) = w 0 c + weighed (λ place. w (suc place)) table

-- how many leave X, where the table has the number from node u to node v at place u * n + v
abbrev pub leaving_by : ℕ → List Bool → List ℕ → ℕ
leaving_by n X table = weighed (λ place c. across (has X (place / n)) (has X (place % n)) c) table

-- the arcs have the numbers of the table for capacities
pub record Writes (n : ℕ) (arcs : List Cap) (table : List ℕ) : Type 0 where
  pub few : length arcs ≤ length table
  pub ends : All (λ a. (a.tail < n) × (a.head < n)) arcs
  pub capacity : (X : List Bool) → capacity X arcs ≡ leaving_by n X table

-- equal, or both at least k
abbrev pub AgreeUpTo : ℕ → ℕ → ℕ → Type 0
AgreeUpTo k a b = (a ≡ b) ⊎ ((k ≤ a) × (k ≤ b))

-- up to k, as many leave each side as f says
abbrev pub Counts : ℕ → ℕ → List ℕ → (List Bool → ℕ) → Type 0
Counts n k table f = (X : List Bool) → AgreeUpTo k (leaving_by n X table) (f X)

-- the new table counts so many more than the old one
abbrev pub CountsMore : ℕ → ℕ → List ℕ → List ℕ → (List Bool → ℕ) → Type 0
CountsMore n k old new g = (f : List Bool → ℕ) → Counts n k old f → Counts n k new (λ X. f X + g X)
