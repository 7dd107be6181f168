-- What a search in a residual network has found. No public clause cites it.
use Rattle.std.specs.Prelude.{◌≡◌, ℕ, zero, suc, ◌+◌, ◌<◌, ◌≤◌, List, [], length, slice_index, slice_index_or, Bool, true, nat_lt, count_by}
use Rattle.flow_cuts.specs.declared.network.Link.{Link}
use Rattle.flow_cuts.specs.declared.network.Step.{Step}
use Rattle.flow_cuts.specs.declared.network.Way.TheVariants.{Forth}
use Rattle.flow_cuts.specs.declared.search.Mark.{Mark}
use Rattle.flow_cuts.specs.Residual.{from_at, to_at, room_at}
use Rattle.graph_core.specs.Limits.{side_room}
use Rattle.graph_core.specs.Side.{has}

abbrev pub row_at : List (List Step) → ℕ → List Step
row_at rows v = slice_index_or rows v []

-- n nodes, and at each node just the steps from it
pub record IsAdjacency (n : ℕ) (ls : List Link) (rows : List (List Step)) : Type 0 where
  pub fits : n ≤ side_room
  pub rows_len : length rows ≡ n
  pub from : (s : Step) → s.link < length ls → from_at ls s < n
  pub to : (s : Step) → s.link < length ls → to_at ls s < n
  pub listed : (s : Step) → s.link < length ls → (k : ℕ) × (k < length (row_at rows (from_at ls s))) × (slice_index_or (row_at rows (from_at ls s)) k s ≡ s)
  pub leads : (v k : ℕ) (s : Step) → k < length (row_at rows v) → slice_index_or (row_at rows v) k s ≡ s → (s.link < length ls) × (from_at ls s ≡ v)

-- the level of a node that is not reached
abbrev pub unseen : ℕ
unseen = 4294967295

abbrev pub no_step : Step
no_step = record { link = 0; way = Forth }

abbrev pub no_mark : Mark
no_mark = record { level = unseen; via = no_step; narrow = 0 }

abbrev pub mark_at : List Mark → ℕ → Mark
mark_at ms v = slice_index_or ms v no_mark

abbrev pub is_seen : Mark → Bool
is_seen m = nat_lt m.level unseen

-- the mark of a node that is reached: it is inside, or its step comes from a node one level lower.
-- As much as its last field says goes through each step on its way from the inside
pub record IsReached (ls : List Link) (inside : List Bool) (ms : List Mark) (v : ℕ) (m : Mark) : Type 0 where
  pub root : m.level ≡ 0 → has inside v ≡ true
  pub link : 0 < m.level → m.via.link < length ls
  pub to : 0 < m.level → to_at ls m.via ≡ v
  pub up : 0 < m.level → (mark_at ms (from_at ls m.via)).level + 1 ≡ m.level
  pub room : 0 < m.level → m.narrow ≤ room_at ls m.via
  pub narrower : 0 < m.level → m.narrow ≤ (mark_at ms (from_at ls m.via)).narrow
  pub some : 0 < m.narrow

-- the first c places of the queue are the nodes that are reached
pub record IsFilled (n : ℕ) (ms : List Mark) (queue : List ℕ) (c : ℕ) : Type 0 where
  pub marks_len : length ms ≡ n
  pub queue_len : length queue ≡ n
  pub counted : count_by is_seen ms ≡ c
  pub low : (v : ℕ) → (mark_at ms v).level < unseen → (mark_at ms v).level < c
  pub queued : (v : ℕ) → (mark_at ms v).level < unseen → (k : ℕ) × (k < c) × (slice_index queue k ≡ v)
  pub seen : (k : ℕ) → k < c → (mark_at ms (slice_index queue k)).level < unseen

pub record IsSearchForest (ls : List Link) (inside : List Bool) (ms : List Mark) : Type 0 where
  pub reached : (v : ℕ) → (mark_at ms v).level < unseen → IsReached ls inside ms v (mark_at ms v)

-- what stood in the tree stands there still
pub record Grows (ms : List Mark) (queue : List ℕ) (c : ℕ) (ms' : List Mark) (queue' : List ℕ) (c' : ℕ) : Type 0 where
  pub more : c ≤ c'
  pub seen : (v : ℕ) → (mark_at ms v).level < unseen → (mark_at ms' v).level < unseen
  pub places : (k : ℕ) → k < c → slice_index queue' k ≡ slice_index queue k

-- each step with room from a node that is reached leads to one that is
pub record IsClosedTree (ls : List Link) (ms : List Mark) : Type 0 where
  pub at : (s : Step) → s.link < length ls → 0 < room_at ls s → (mark_at ms (from_at ls s)).level < unseen → (mark_at ms (to_at ls s)).level < unseen

-- the row's steps come from nodes that are reached
pub record IsRow (n : ℕ) (ls : List Link) (ms : List Mark) (row : List Step) : Type 0 where
  pub link : (k : ℕ) (s : Step) → k < length row → slice_index_or row k s ≡ s → s.link < length ls
  pub to : (k : ℕ) (s : Step) → k < length row → slice_index_or row k s ≡ s → to_at ls s < n
  pub from : (k : ℕ) (s : Step) → k < length row → slice_index_or row k s ≡ s → (mark_at ms (from_at ls s)).level < unseen

-- each step with room among the first k of the row leads to a node that is reached
pub record IsLookedAt (ls : List Link) (ms : List Mark) (row : List Step) (k : ℕ) : Type 0 where
  pub at : (j : ℕ) (s : Step) → j < k → slice_index_or row j s ≡ s → 0 < room_at ls s → (mark_at ms (to_at ls s)).level < unseen

-- the rows of the nodes in the first h places are looked at
pub record IsDone (ls : List Link) (rows : List (List Step)) (ms : List Mark) (queue : List ℕ) (h : ℕ) : Type 0 where
  pub at : (k : ℕ) → k < h → IsLookedAt ls ms (row_at rows (slice_index queue k)) (length (row_at rows (slice_index queue k)))

-- by k steps from the inside to v, the last of them in the marks, an amount may go
abbrev pub IsOpenWay : List Link → List Bool → List Mark → ℕ → ℕ → ℕ → Type 0
IsOpenWay ls inside ms a zero v = (has inside v ≡ true) × ((mark_at ms v).level ≡ 0)
IsOpenWay ls inside ms a (suc k) v =
    ((mark_at ms v).level ≡ suc k) × ((mark_at ms v).via.link < length ls) × (to_at ls (mark_at ms v).via ≡ v) × (a ≤ room_at ls (mark_at ms v).via) × IsOpenWay ls inside ms a k (from_at ls (mark_at ms v).via)

-- all that can be reached from a side is reached, by steps that have room
pub record IsSearched (n : ℕ) (ls : List Link) (inside : List Bool) (ms : List Mark) : Type 0 where
  pub len : length ms ≡ n
  pub low : (v : ℕ) → (mark_at ms v).level < unseen → (mark_at ms v).level < side_room
  pub roots : (v : ℕ) → has inside v ≡ true → (mark_at ms v).level < unseen
  pub forest : IsSearchForest ls inside ms
  pub closed : IsClosedTree ls ms

-- no node of the side is reached
pub record IsMissed (outside : List Bool) (ms : List Mark) : Type 0 where
  pub at : (v : ℕ) → has outside v ≡ true → (mark_at ms v).level ≡ unseen

-- by k steps from the inside to v, the last of them in the marks; at each node its mark says how much may go so far
abbrev pub IsNarrowWay : List Link → List Bool → List Mark → ℕ → ℕ → Type 0
IsNarrowWay ls inside ms zero v = ((mark_at ms v).level ≡ 0) × (has inside v ≡ true) × (0 < (mark_at ms v).narrow)
IsNarrowWay ls inside ms (suc k) v =
    ((mark_at ms v).level ≡ suc k) × ((mark_at ms v).via.link < length ls) × (to_at ls (mark_at ms v).via ≡ v) × ((mark_at ms v).narrow ≤ room_at ls (mark_at ms v).via) ×
    ((mark_at ms v).narrow ≤ (mark_at ms (from_at ls (mark_at ms v).via)).narrow) × (0 < (mark_at ms v).narrow) × IsNarrowWay ls inside ms k (from_at ls (mark_at ms v).via)

-- the nodes of level 0 are inside, and the levels of the nodes that are reached are low
pub record IsLevelled (n : ℕ) (inside : List Bool) (ms : List Mark) : Type 0 where
  pub len : length ms ≡ n
  pub roots : (v : ℕ) → (mark_at ms v).level ≡ 0 → (has inside v ≡ true) × (0 < (mark_at ms v).narrow)
  pub low : (v : ℕ) → (mark_at ms v).level < unseen → (mark_at ms v).level < side_room

-- the marks have changed at the node w alone, and not its level
pub record IsLedTo (ms ms' : List Mark) (w : ℕ) : Type 0 where
  pub len : length ms' ≡ length ms
  pub level : (v : ℕ) → (mark_at ms' v).level ≡ (mark_at ms v).level
  pub alive : count_by is_seen ms' ≡ count_by is_seen ms
  pub roots : (v : ℕ) → (mark_at ms v).level ≡ 0 → mark_at ms' v ≡ mark_at ms v
