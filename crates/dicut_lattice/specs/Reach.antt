-- What each node reaches along arcs, as one side for each node: rows of truth values. No public clause cites it.
use Rattle.std.specs.Prelude.{ℕ, ◌≡◌, ◌<◌, Bool, true, ◌&&◌, ◌||◌, ◌⊎◌, List, [], length, slice_index_or, All}
use Rattle.graph_core.specs.Graph.{GraphValue}
use Rattle.graph_core.specs.Side.{has}
use Rattle.graph_core.specs.Lines.{leaving}
use Rattle.graph_core.specs.declared.graph.Line.{Line}

-- the nodes that v reaches: the smallest set with v that no arc leaves
pub record IsReach (g : GraphValue) (v : ℕ) (R : List Bool) : Type 0 where
  pub long : length R ≡ length g.names
  pub holds : has R v ≡ true
  pub closed : leaving R g.lines ≡ 0
  pub least : (W : List Bool) → leaving W g.lines ≡ 0 → has W v ≡ true → (u : ℕ) → has R u ≡ true → has W u ≡ true

-- whether w is in the row of v
abbrev pub leads : List (List Bool) → ℕ → ℕ → Bool
leads rows v w = has (slice_index_or rows v []) w

-- whether it is, or would be if the row of k were joined to each row that has k
abbrev pub leads_by : ℕ → List (List Bool) → ℕ → ℕ → Bool
leads_by k rows v w = leads rows v w || (leads rows v k && leads rows k w)

-- as many rows as each of them is long
pub record AreSquare (n : ℕ) (rows : List (List Bool)) : Type 0 where
  pub count : length rows ≡ n
  pub long : All (λ R. length R ≡ n) rows

-- the nodes below v, each alone in its row
pub record AreOwn (n v : ℕ) (rows : List (List Bool)) : Type 0 where
  pub count : length rows ≡ v
  pub long : All (λ R. length R ≡ n) rows
  pub here : (u : ℕ) → u < v → leads rows u u ≡ true
  pub own : (u w : ℕ) → leads rows u w ≡ true → w ≡ u

-- the row of v gets w
pub record LeadsTo (v w : ℕ) (old new : List (List Bool)) : Type 0 where
  pub square : AreSquare (length old) new
  pub kept : (x y : ℕ) → leads old x y ≡ true → leads new x y ≡ true
  pub here : leads new v w ≡ true
  pub only : (x y : ℕ) → leads new x y ≡ true → (leads old x y ≡ true) ⊎ ((x ≡ v) × (y ≡ w))

-- the row of k is joined to each row that has it
pub record LeadsOn (k : ℕ) (old new : List (List Bool)) : Type 0 where
  pub square : AreSquare (length old) new
  pub by : (v w : ℕ) → leads new v w ≡ leads_by k old v w

-- rows that lead from each node to itself and along some of the arcs, and not beyond what it reaches
pub record AreRows (g : GraphValue) (some_arcs : List Line) (rows : List (List Bool)) : Type 0 where
  pub square : AreSquare (length g.names) rows
  pub here : (v : ℕ) → v < length g.names → leads rows v v ≡ true
  pub along : All (λ l. leads rows l.tail l.head ≡ true) some_arcs
  pub within : (W : List Bool) → leaving W g.lines ≡ 0 → (v w : ℕ) → has W v ≡ true → leads rows v w ≡ true → has W w ≡ true

-- what leads to a node below k leads on to where that node leads
abbrev pub LeadOnBelow : ℕ → List (List Bool) → Type 0
LeadOnBelow k rows = (v x w : ℕ) → x < k → leads rows v x ≡ true → leads rows x w ≡ true → leads rows v w ≡ true

-- each row is what its node reaches
abbrev pub AreReached : GraphValue → List (List Bool) → Type 0
AreReached g rows = (v : ℕ) → v < length g.names → IsReach g v (slice_index_or rows v [])
