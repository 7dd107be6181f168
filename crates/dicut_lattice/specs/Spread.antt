-- Sets that no arc leaves and that hold with the heads of some arcs also their tails. No public clause cites them.
use Rattle.std.specs.Prelude.{ℕ, ◌≡◌, ◌≢◌, ◌+◌, ◌-◌, ◌<◌, ◌≤◌, if◌then◌else◌, Bool, true, false, List, length, slice_get, Some, All}
use Rattle.std.specs.Bool.{OnTrue, OnFalse}
use Rattle.graph_core.specs.Graph.{GraphValue, Fits}
use Rattle.graph_core.specs.Side.{has, size}
use Rattle.graph_core.specs.Lines.{leaving}
use Rattle.graph_core.specs.Picked.{picked}
use Rattle.graph_core.specs.declared.graph.Line.{Line}
use Rattle.problem_defs.specs.Dijoin.{IsFeasible}

-- place i of m, counted from the last one or from the first
abbrev pub place_from : Bool → ℕ → ℕ → ℕ
place_from last m i = if last then m - (i + 1) else i

-- place j is among the first k that are counted
abbrev pub IsCounted : Bool → ℕ → ℕ → ℕ → Type 0
IsCounted last m k j = (i : ℕ) × (i < k) × (place_from last m i ≡ j)

-- with the head of each of these arcs, but that at one place, its tail is in the set
abbrev pub GoesBack : (ℕ → Type 0) → List Line → ℕ → List Bool → Type 0
GoesBack Among arcs skip W = (j : ℕ) (l : Line) → Among j → slice_get arcs j ≡ Some l → j ≢ skip → has W l.head ≡ true → has W l.tail ≡ true

-- no arc of the graph leaves it, and of the listed arcs none but that at one place enters it
pub record IsSpread (g : GraphValue) (arcs : List Line) (skip : ℕ) (W : List Bool) : Type 0 where
  pub long : length W ≡ length g.names
  pub closed : leaving W g.lines ≡ 0
  pub back : GoesBack (λ j. j < length arcs) arcs skip W

-- a set with y that no arc leaves, and that lies in each set that is spread and has y
pub record IsSpreading (g : GraphValue) (arcs : List Line) (skip y : ℕ) (R : List Bool) : Type 0 where
  pub long : length R ≡ length g.names
  pub holds : has R y ≡ true
  pub closed : leaving R g.lines ≡ 0
  pub within : (W : List Bool) → IsSpread g arcs skip W → has W y ≡ true → (v : ℕ) → has R v ≡ true → has W v ≡ true

-- X becomes Y, a larger set with the tail of a line, if the line enters X, and it is told whether so
pub record StepsBack (g : GraphValue) (l : Line) (X : List Bool) (grew : Bool) (Y : List Bool) : Type 0 where
  pub long : length Y ≡ length X
  pub closed : leaving X g.lines ≡ 0 → leaving Y g.lines ≡ 0
  pub kept : (v : ℕ) → has X v ≡ true → has Y v ≡ true
  pub within : (W : List Bool) → leaving W g.lines ≡ 0 → (has W l.head ≡ true → has W l.tail ≡ true) → ((v : ℕ) → has X v ≡ true → has W v ≡ true) → (v : ℕ) → has Y v ≡ true → has W v ≡ true
  pub more : OnTrue grew (size X < size Y)
  pub same : OnFalse grew (Y ≡ X)
  pub back : OnFalse grew (has X l.head ≡ true → has X l.tail ≡ true)

-- X has become Y by some of the arcs, which is larger or goes back along them
pub record HasPassed (g : GraphValue) (arcs : List Line) (skip : ℕ) (Among : ℕ → Type 0) (X : List Bool) (grew : Bool) (Y : List Bool) : Type 0 where
  pub long : length Y ≡ length X
  pub spreading : (y : ℕ) → IsSpreading g arcs skip y X → IsSpreading g arcs skip y Y
  pub kept : size X ≤ size Y
  pub more : OnTrue grew (size X < size Y)
  pub done : OnFalse grew (GoesBack Among arcs skip Y)

-- the smallest set with y that is spread
pub record IsLeastSpread (g : GraphValue) (arcs : List Line) (skip y : ℕ) (R : List Bool) : Type 0 where
  pub spread : IsSpread g arcs skip R
  pub spreading : IsSpreading g arcs skip y R

-- a set that is spread holds y and misses x
pub record SpreadsBetween (g : GraphValue) (arcs : List Line) (y x skip : ℕ) (R : List Bool) : Type 0 where
  pub spread : IsSpread g arcs skip R
  pub holds : has R y ≡ true
  pub misses : has R x ≡ false

-- what the smallest sets with y have in common that are spread, for each place below k that is left out
pub record IsCommon (g : GraphValue) (arcs : List Line) (k y : ℕ) (K : List Bool) : Type 0 where
  pub long : length K ≡ length g.names
  pub inside : (x : ℕ) → has K x ≡ true → (skip : ℕ) → skip < k → (W : List Bool) → IsSpread g arcs skip W → has W y ≡ true → has W x ≡ true
  pub outside : (x : ℕ) → x < length g.names → has K x ≡ false → (skip : ℕ) × (skip < k) × (R : List Bool) × SpreadsBetween g arcs y x skip R

-- what is kept for the questions about kernels
pub record KeepsArcs (g : GraphValue) (join : List ℕ) (arcs : List Line) (reach : GraphValue) (whole work : List Bool) : Type 0 where
  pub dijoin : IsFeasible g join
  pub arcs_are : arcs ≡ picked g.lines join
  pub fits : All (Fits (length g.names)) arcs
  pub reach_is : reach ≡ g
  pub whole_long : length whole ≡ length g.names
  pub whole_has : (v : ℕ) → v < length g.names → has whole v ≡ true
  pub work_long : length work ≡ length g.names
