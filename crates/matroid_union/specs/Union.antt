-- Disjoint free sets, and the elements that show that they are most.
use Rattle.std.specs.Prelude.{◌≡◌, ℕ, ◌<◌, ◌==◌, Bool, true, false, ◌&&◌, List, [], length, slice_index_or}
use Rattle.std.specs.List.{list_any, concat}
use Rattle.graph_core.specs.Side.{has}
use Rattle.graph_core.specs.Picked.{IsDistinct}
use Rattle.matroid_union.specs.Sets.{plus}
use Rattle.graph_core.specs.Sets.{set_of}

-- whether a row names an element
abbrev pub names : List ℕ → ℕ → Bool
names row e = list_any (λ x. x == e) row

-- row p
abbrev pub row : List (List ℕ) → ℕ → List ℕ
row rows p = slice_index_or rows p []

-- k rows of elements below n, each a free set, no element named twice in all of them together, and a set T that shows that
-- no others name more: it has each element that no row names, and each row's elements in T span T (Edmonds 1968)
pub record IsUnion (n : ℕ) (free : List Bool → Type 0) (k : ℕ) (rows : List (List ℕ)) (T : List Bool) : Type 0 where
  pub many : length rows ≡ k
  pub inside : (p e : ℕ) → p < k → names (row rows p) e ≡ true → e < n
  pub distinct : IsDistinct (concat rows)
  pub parts : (p : ℕ) → p < k → free (set_of n (names (row rows p)))
  pub long : length T ≡ n
  pub rest : (e : ℕ) → e < n → ((p : ℕ) → p < k → names (row rows p) e ≡ false) → has T e ≡ true
  -- no row can take an element of T beside its own in T
  pub spans : (p e : ℕ) → p < k → e < n → names (row rows p) e ≡ false → has T e ≡ true → free (set_of n (plus (λ i. names (row rows p) i && has T i) e)) → ⊥
