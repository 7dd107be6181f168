-- Networks: arcs with capacities among n nodes, and the capacity that leaves a side.
use Rattle.std.specs.Prelude.{◌≡◌, ℕ, Bool, true, false, not, ◌&&◌, if◌then◌else◌, List, length, sum_by}
use Rattle.graph_core.specs.Side.{has}
use Rattle.flow_cuts.specs.declared.network.Cap.{Cap}

-- the most arcs of a network
abbrev pub arc_room : ℕ
arc_room = 16777216

-- the amount r where a holds and b doesn't, else 0
abbrev pub across : Bool → Bool → ℕ → ℕ
across a b r = if a && not b then r else 0

-- the capacity of an arc whose tail is in X and whose head isn't, else 0
abbrev pub leaving : List Bool → Cap → ℕ
leaving X a = across (has X a.tail) (has X a.head) a.cap

-- the capacity that leaves X
abbrev pub capacity : List Bool → List Cap → ℕ
capacity X arcs = sum_by (leaving X) arcs

-- X is a side of n nodes that holds one side and misses another
pub record Separates (n : ℕ) (inside outside X : List Bool) : Type 0 where
  pub long : length X ≡ n
  pub holds : (v : ℕ) → has inside v ≡ true → has X v ≡ true
  pub misses : (v : ℕ) → has outside v ≡ true → has X v ≡ false

-- f is the network's cut function: the capacity that leaves each side
abbrev pub IsCutFunction : List Cap → (List Bool → ℕ) → Type 0
IsCutFunction arcs f = (X : List Bool) → capacity X arcs ≡ f X
