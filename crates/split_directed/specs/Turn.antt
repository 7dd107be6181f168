-- Splitting off the arcs to one node, the most that a pair may be split off, and a tight side that grows. No public clause cites it.
use Rattle.std.specs.Prelude.{ℕ, ◌≡◌, ◌≢◌, ◌+◌, ◌<◌, ◌≤◌, Bool, true, false, List, length, slice_index, sum, All, AllPairs}
use Rattle.graph_core.specs.Side.{has, size, IsProper}
use Rattle.cut_fn.specs.Covered.{IsTight}
use Rattle.problem_defs.specs.declared.cert.Way.{Way}
use Rattle.flow_cuts.specs.StarValues.{value_for}
use Rattle.flow_cuts.specs.LeastOver.{HasBoth}
use Rattle.split_directed.specs.Rows.{after, AreMost}
use Rattle.cut_fn.specs.Stars.{StarValue, star_enter, star_leave}
use Rattle.split_directed.specs.State.{IsCoveredStar}

-- b is the smaller of the counts of u and of t
pub record IsFewest (out into : List ℕ) (u t b : ℕ) : Type 0 where
  pub out_most : b ≤ slice_index out u
  pub into_most : b ≤ slice_index into t
  pub greatest : (d : ℕ) → d ≤ slice_index out u → d ≤ slice_index into t → d ≤ b

-- c is the most up to b that u and t may be split off; where it is less than b, X is a side that allows no more
pub record IsMostUpTo (n k : ℕ) (s : StarValue) (u t b c : ℕ) (w : Way) (X : List Bool) : Type 0 where
  pub within : c ≤ b
  pub enters : (Y : List Bool) → IsProper n Y → has Y u ≡ true → has Y t ≡ true → k + c ≤ star_enter s Y
  pub leaves : (Y : List Bool) → IsProper n Y → has Y u ≡ true → has Y t ≡ true → k + c ≤ star_leave s Y
  pub blocked : c < b → HasBoth n (value_for w s) u t (k + c) X

-- M is empty, or a tight side with t
pub record IsWitness (n k : ℕ) (s : StarValue) (t : ℕ) (w : Way) (M : List Bool) : Type 0 where
  pub long : length M ≡ n
  pub tight : has M t ≡ true → IsTight n k (value_for w s) M
  pub none : has M t ≡ false → (v : ℕ) → has M v ≡ false

-- no pair of nodes stands in two rows
abbrev pub AreOnce : List (ℕ × ℕ × ℕ) → Type 0
AreOnce rows = AllPairs (λ p q. p.0 ≡ q.0 → p.1 ≢ q.1) rows

-- all arcs to nodes below t are split off, by rows that lead to such nodes
pub record IsBefore (n k t : ℕ) (s : StarValue) (rows : List (ℕ × ℕ × ℕ)) : Type 0 where
  pub covered : IsCoveredStar n k (after s rows)
  pub same : sum (after s rows).into ≡ sum (after s rows).out
  pub most : AreMost n k s rows
  pub once : AreOnce rows
  pub below : All (λ r. r.1 < t) rows
  pub done : (v : ℕ) → v < t → slice_index (after s rows).into v ≡ 0

-- the arcs to t are being split off: a node that was tried with t and has an arc left is in the tight side M
pub record IsTurn (n k t : ℕ) (s : StarValue) (rows : List (ℕ × ℕ × ℕ)) (w : Way) (M : List Bool) : Type 0 where
  pub covered : IsCoveredStar n k (after s rows)
  pub same : sum (after s rows).into ≡ sum (after s rows).out
  pub most : AreMost n k s rows
  pub once : AreOnce rows
  pub upto : All (λ r. r.1 ≤ t) rows
  pub done : (v : ℕ) → v < t → slice_index (after s rows).into v ≡ 0
  pub tried : All (λ r. r.1 ≡ t → 1 ≤ slice_index (after s rows).into t → 1 ≤ slice_index (after s rows).out r.0 → has M r.0 ≡ true) rows
  pub witness : IsWitness n k (after s rows) t w M

-- after a step of the turn the star has fewer arcs from its nodes, or the tight side has more nodes
pub record IsStep (n k t : ℕ) (s : StarValue) (rows rows' : List (ℕ × ℕ × ℕ)) (M : List Bool) (w : Way) (M' : List Bool) : Type 0 where
  pub turn : IsTurn n k t s rows' w M'
  pub less : sum (after s rows').out + size M < sum (after s rows).out + size M'

-- a node with an arc left that isn't in M
pub record IsLeft (counts : List ℕ) (M : List Bool) (u : ℕ) : Type 0 where
  pub below : u < length counts
  pub outside : has M u ≡ false
  pub some : 1 ≤ slice_index counts u
