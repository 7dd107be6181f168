-- The conditions that the work keeps. No public clause cites it.
use Rattle.std.specs.Prelude.{ℕ, ◌≡◌, ◌≢◌, ◌+◌, ◌<◌, ◌≤◌, false, Bool, List, length, map, slice_get, slice_index_or, Some, sum, sum_by, min, All}
use Rattle.std.proofs.Common.{leb}
use Rattle.graph_core.specs.Graph.{GraphValue}
use Rattle.graph_core.specs.Picked.{occurrences}
use Rattle.graph_core.specs.declared.graph.Line.{Line}
use Rattle.problem_defs.specs.Dijoin.{IsFeasible, IsClosed}
use Rattle.dicut_lattice.specs.Level.{entered_by}
use Rattle.dicut_lattice.specs.Tight.{AreSeparated, IsTight}
use Rattle.lucchesi_younger.specs.declared.work.Work.{Work}

-- the number at a place
abbrev pub at : List ℕ → ℕ → ℕ
at xs i = slice_index_or xs i 0

-- the arc with number j
abbrev pub IsArc : List Line → ℕ → Line → Type 0
IsArc ls j l = slice_get ls j ≡ Some l

-- j is one of the numbers
abbrev pub IsIn : List ℕ → ℕ → Type 0
IsIn js j = 1 ≤ occurrences j js

-- the nodes whose potential is at least i
abbrev pub level : List ℕ → ℕ → List Bool
level potential i = map (λ p. leb i p) potential

-- A dijoin, costs so far and a potential. An arc doesn't fall, and one that isn't fixed rises by its cost at most. An arc of the dijoin rises by its cost, but for the one that is late. A tight side separates each two nodes of different potentials.
pub record IsKept (g : GraphValue) (w : Work) (late : ℕ) : Type 0 where
  pub join : IsFeasible g w.join
  pub costs_long : length w.costs ≡ length g.lines
  pub potential_long : length w.potential ≡ length g.names
  pub low : (v : ℕ) → at w.potential v ≤ sum w.costs
  pub rises : (j : ℕ) (l : Line) → IsArc g.lines j l → at w.potential l.tail ≤ at w.potential l.head
  pub most : (j : ℕ) (l : Line) → IsArc g.lines j l → l.fixed ≡ false → at w.potential l.head ≤ at w.potential l.tail + at w.costs j
  pub equal : (j : ℕ) (l : Line) → IsArc g.lines j l → IsIn w.join j → j ≢ late → at w.potential l.head ≡ at w.potential l.tail + at w.costs j
  pub apart : (x y : ℕ) → x < length g.names → y < length g.names → at w.potential x < at w.potential y → AreSeparated g w.join y x

-- no arc is late
abbrev pub AllKept : GraphValue → Work → Type 0
AllKept g w = IsKept g w (length g.lines)

-- the arc of the dijoin from s to t that costs one more than it rises
pub record IsLate (g : GraphValue) (w : Work) (late s t : ℕ) : Type 0 where
  pub line : Line
  pub arc : IsArc g.lines late line
  pub tail : line.tail ≡ s
  pub head : line.head ≡ t
  pub taken : IsIn w.join late
  pub behind : at w.potential t + 1 ≡ at w.potential s + at w.costs late
  pub room : (v : ℕ) → at w.potential v + 1 ≤ sum w.costs

-- a dijoin and closed sides of one value: an arc that isn't fixed enters at most as many sides as its cost, and the costs of the dijoin add up to the number of the sides
pub record IsSolved (g : GraphValue) (costs join : List ℕ) (sides : List (List Bool)) : Type 0 where
  pub feasible : IsFeasible g join
  pub members : All (IsClosed g) sides
  pub apart : (j : ℕ) (l : Line) → IsArc g.lines j l → l.fixed ≡ false → entered_by l sides ≤ at costs j
  pub equal : sum_by (at costs) join ≡ length sides

-- the pieces of the levels up to i: an arc enters one for each of these levels that it enters
pub record IsBuilt (g : GraphValue) (w : Work) (i : ℕ) (sides : List (List Bool)) : Type 0 where
  pub tight : All (IsTight g w.join) sides
  pub entered : (j : ℕ) (l : Line) → IsArc g.lines j l → entered_by l sides + min (at w.potential l.tail) i ≡ min (at w.potential l.head) i
