-- Classes of nodes as trees of parents.
use Rattle.std.specs.Prelude.{◌≡◌, ◌≢◌, ℕ, ◌<◌, List, length, slice_index}
use Rattle.graph_core.specs.declared.graph.Line.{Line}
use Rattle.graph_core.specs.Labels.{Labels, Finest}

-- each node has a parent; one that isn't its own parent has a smaller rank than it
pub record AreRoots (n : ℕ) (parents ranks : List ℕ) : Type 0 where
  pub parents_long : length parents ≡ n
  pub ranks_long : length ranks ≡ n
  pub inside : (v : ℕ) → v < n → slice_index parents v < n
  pub ranked : (v : ℕ) → v < n → slice_index parents v ≢ v → slice_index ranks v < slice_index ranks (slice_index parents v)

-- the trees are the classes that the lines join
pub record AreClasses (n : ℕ) (parents : List ℕ) (ls : List Line) : Type 0 where
  pub label : ℕ → ℕ
  pub is : Labels n label ls
  pub finest : Finest label ls
  pub along : (v : ℕ) → v < n → label (slice_index parents v) ≡ label v
  pub apart : (u v : ℕ) → u < n → v < n → slice_index parents u ≡ u → slice_index parents v ≡ v → label u ≡ label v → u ≡ v

-- r is the root of the class of v
pub record IsRootOf (parents : List ℕ) (v r : ℕ) : Type 0 where
  pub below : r < length parents
  pub root : slice_index parents r ≡ r
  pub same : (label : ℕ → ℕ) → ((u : ℕ) → u < length parents → label (slice_index parents u) ≡ label u) → label r ≡ label v

-- the ends of the line lie in one class
pub record HaveOneRoot (parents : List ℕ) (l : Line) : Type 0 where
  pub root : ℕ
  pub tail : IsRootOf parents l.tail root
  pub head : IsRootOf parents l.head root

-- the ends of the line lie in two classes, which have these roots
pub record HaveTwoRoots (parents : List ℕ) (l : Line) (a b : ℕ) : Type 0 where
  pub tail : IsRootOf parents l.tail a
  pub head : IsRootOf parents l.head b
  pub apart : a ≢ b
