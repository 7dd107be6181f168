-- Classes of nodes by labels, which serve the proofs about forests.
use Rattle.std.specs.Prelude.{◌≡◌, ℕ, ◌+◌, ◌<◌, ◌≤◌, ◌==◌, Bool, not, cond, List, count_by}
use Rattle.graph_core.specs.Side.{size}
use Rattle.graph_core.specs.Lines.{within}
use Rattle.graph_core.specs.declared.graph.Line.{Line}
use Rattle.graph_core.specs.Sets.{set_of}

-- the nodes with this label
abbrev pub class : ℕ → (ℕ → ℕ) → ℕ → List Bool
class n lab r = set_of n (λ v. lab v == r)

-- whether the ends of a line have different labels
abbrev pub splits : (ℕ → ℕ) → Line → Bool
splits lab l = not (lab l.tail == lab l.head)

-- label a becomes label b
abbrev pub joined : (ℕ → ℕ) → ℕ → ℕ → ℕ → ℕ
joined lab a b = λ v. cond (lab v == a) b (lab v)

-- no line joins two classes, and each class has lines enough to be joined by them
pub record Labels (n : ℕ) (lab : ℕ → ℕ) (ls : List Line) : Type 0 where
  pub below : (v : ℕ) → v < n → lab v < n
  pub closed : count_by (splits lab) ls ≡ 0
  pub tight : (r : ℕ) → size (class n lab r) ≤ count_by (within (class n lab r)) ls + 1

-- the lines of more are those of ls and l
pub record Adds (ls : List Line) (l : Line) (more : List Line) : Type 0 where
  pub counts : (p : Line → Bool) → count_by p more ≡ cond (p l) 1 0 + count_by p ls

-- any labels that no line splits are coarser
pub record Finest (lab : ℕ → ℕ) (ls : List Line) : Type 0 where
  pub coarser : (f : ℕ → ℕ) → count_by (splits f) ls ≡ 0 → (u v : ℕ) → lab u ≡ lab v → f u ≡ f v
