-- The way in a tree from u to v, and its least pair. No public clause cites it.
use Rattle.std.specs.Prelude.{ℕ, ◌≡◌, ◌≢◌, ◌<◌, ◌≤◌, Bool, true, false, List, length}
use Rattle.graph_core.specs.Side.{has}
use Rattle.graph_core.specs.Lines.{differ}
use Rattle.graph_core.specs.Pairs.{pair_at}

-- pair j crosses Z and leaves it, and no other among the first i pairs crosses it
pub record IsCutAt (ps : List (ℕ × ℕ × ℕ)) (j i : ℕ) (Z : List Bool) : Type 0 where
  pub holds : has Z (pair_at ps j).0 ≡ true
  pub misses : has Z (pair_at ps j).1 ≡ false
  pub others : (k : ℕ) → k < i → k ≢ j → has Z (pair_at ps k).0 ≡ has Z (pair_at ps k).1

-- A side that parts u and v parts a pair of no less weight than pair j, and pair j lies between u and v: a side that no other pair crosses has u where it has its first node and v where it has its second.
pub record IsLeastOnWay (ps : List (ℕ × ℕ × ℕ)) (u v j : ℕ) : Type 0 where
  pub within : j < length ps
  pub least : (Y : List Bool) → differ (has Y u) (has Y v) ≡ true
      → (k : ℕ) × (k < length ps) × (differ (has Y (pair_at ps k).0) (has Y (pair_at ps k).1) ≡ true) × ((pair_at ps j).2 ≤ (pair_at ps k).2)
  pub between : (Z : List Bool) → ((k : ℕ) → k < length ps → k ≢ j → has Z (pair_at ps k).0 ≡ has Z (pair_at ps k).1)
      → (has Z u ≡ has Z (pair_at ps j).0) × (has Z v ≡ has Z (pair_at ps j).1)
