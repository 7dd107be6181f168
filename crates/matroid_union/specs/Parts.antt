-- Disjoint parts: each element's part, or none. No public clause cites it.
use Rattle.std.specs.Prelude.{◌≡◌, ℕ, ◌<◌, ◌==◌, nat_le, Bool, false, cond, ◌&&◌, ◌||◌, List, map, slice_index_or, count_by, Option, Some, None}
use Rattle.std.specs.List.{filter, range_with_len}
use Rattle.std.specs.Option.{is_none}
use Rattle.graph_core.specs.Side.{has}
use Rattle.matroid_union.specs.Sets.{plus, swap}
use Rattle.graph_core.specs.Sets.{set_of}

-- whether part p is meant
abbrev pub holds : Option ℕ → ℕ → Bool
holds None p = false
holds (Some q) p = q == p

-- the elements of part p
abbrev pub part : (ℕ → Option ℕ) → ℕ → ℕ → Bool
part own p = λ i. holds (own i) p

-- the parts as a list says
abbrev pub own_of : List (Option ℕ) → ℕ → Option ℕ
own_of owner = λ i. slice_index_or owner i None

-- the elements of part p from place a on, and the reached ones before
abbrev pub kept : (ℕ → Option ℕ) → List Bool → ℕ → ℕ → ℕ → Bool
kept own reached p a = λ i. part own p i && (nat_le a i || has reached i)

-- how many elements no part has
abbrev pub spare : List (Option ℕ) → ℕ
spare owner = count_by is_none owner

-- element e goes to part p
abbrev pub moved : (ℕ → Option ℕ) → ℕ → ℕ → ℕ → Option ℕ
moved own e p = λ i. cond (i == e) (Some p) (own i)

-- k parts of the elements below n, each free
pub record IsPacking (n : ℕ) (free : List Bool → Type 0) (k : ℕ) (own : ℕ → Option ℕ) : Type 0 where
  pub parts : (p : ℕ) → p < k → free (set_of n (part own p))
  pub below : (i p : ℕ) → own i ≡ Some p → p < k

-- how the element at place j of a queue, which part p has, was reached: the one at place b j
-- can take its place, and none before that one can
pub record Entered (n : ℕ) (free : List Bool → Type 0) (own : ℕ → Option ℕ) (q b : ℕ → ℕ) (j p : ℕ) : Type 0 where
  pub earlier : b j < j
  pub apart : part own p (q (b j)) ≡ false
  pub swaps : free (set_of n (swap (part own p) (q j) (q (b j))))
  pub first : (i : ℕ) → i < b j → part own p (q i) ≡ false → free (set_of n (swap (part own p) (q j) (q i))) → ⊥

-- places 0 to last of a queue
pub record Tree (n : ℕ) (free : List Bool → Type 0) (own : ℕ → Option ℕ) (q b : ℕ → ℕ) (len : ℕ) : Type 0 where
  pub inside : (j : ℕ) → j < len → q j < n
  pub distinct : (i j : ℕ) → i < j → j < len → q i ≡ q j → ⊥
  pub entered : (j p : ℕ) → j < len → own (q j) ≡ Some p → Entered n free own q b j p

-- part p can take the element at place j, and no part can take one before
pub record End (n : ℕ) (free : List Bool → Type 0) (k : ℕ) (own : ℕ → Option ℕ) (q : ℕ → ℕ) (j p : ℕ) : Type 0 where
  pub below : p < k
  pub apart : part own p (q j) ≡ false
  pub joins : free (set_of n (plus (part own p) (q j)))
  pub first : (i r : ℕ) → i < j → r < k → part own r (q i) ≡ false → free (set_of n (plus (part own r) (q i))) → ⊥

-- the elements below n of part p, in order
abbrev pub members : ℕ → (ℕ → Option ℕ) → ℕ → List ℕ
members n own p = filter (part own p) (range_with_len 0 n)

-- the rows of k parts
abbrev pub rows_of : ℕ → (ℕ → Option ℕ) → ℕ → List (List ℕ)
rows_of n own k = map (members n own) (range_with_len 0 k)
