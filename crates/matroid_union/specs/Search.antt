-- A search from an element that no part has. No public clause cites it.
use Rattle.std.specs.Prelude.{◌≡◌, ◌⊎◌, ◌+◌, ℕ, ◌<◌, ◌≤◌, Bool, true, false, List, length, slice_index, Option}
use Rattle.graph_core.specs.Side.{has, size}
use Rattle.matroid_union.specs.Sets.{plus}
use Rattle.graph_core.specs.Sets.{set_of}
use Rattle.matroid_union.specs.Parts.{part, kept, Tree}

-- where an element stands in the queue
pub record Place (queue : List ℕ) (e : ℕ) : Type 0 where
  pub at : ℕ
  pub below : at < length queue
  pub is : slice_index queue at ≡ e

-- a queue that begins with an older one
pub record Begins (older newer : List ℕ) : Type 0 where
  pub longer : length older ≤ length newer
  pub same : (i : ℕ) → i < length older → slice_index newer i ≡ slice_index older i

-- no part below k that hasn't x can take it beside all its elements
abbrev pub IsShut : ℕ → (List Bool → Type 0) → ℕ → (ℕ → Option ℕ) → ℕ → Type 0
IsShut n free k own x = (p : ℕ) → p < k → part own p x ≡ false → free (set_of n (plus (part own p) x)) → ⊥

-- no part below k can take x beside its reached elements
abbrev pub IsFull : ℕ → (List Bool → Type 0) → ℕ → (ℕ → Option ℕ) → List Bool → ℕ → Type 0
IsFull n free k own reached x = (p : ℕ) → p < k → part own p x ≡ false → free (set_of n (plus (kept own reached p n) x)) → ⊥

-- elements that earlier searches reached in vain: no part can take one beside its own such elements
pub record AreDead (n : ℕ) (free : List Bool → Type 0) (k : ℕ) (own : ℕ → Option ℕ) (dead : List Bool) : Type 0 where
  pub long : length dead ≡ n
  pub full : (e : ℕ) → has dead e ≡ true → IsFull n free k own dead e

-- the reached elements are the dead ones and those of the queue, of which those at the places below done were looked at
pub record IsSearch (n : ℕ) (free : List Bool → Type 0) (k : ℕ) (own : ℕ → Option ℕ) (dead reached : List Bool) (queue back : List ℕ) (done : ℕ) : Type 0 where
  pub reached_long : length reached ≡ n
  pub back_long : length back ≡ length queue
  pub count : size dead + length queue ≡ size reached
  pub tree : Tree n free own (slice_index queue) (slice_index back) (length queue)
  pub marked : (j : ℕ) → j < length queue → has reached (slice_index queue j) ≡ true
  pub alive : (j : ℕ) → j < length queue → has dead (slice_index queue j) ≡ false
  pub older : (e : ℕ) → has dead e ≡ true → has reached e ≡ true
  pub queued : (e : ℕ) → has reached e ≡ true → (has dead e ≡ true) ⊎ Place queue e
  pub full : (i : ℕ) → i < done → IsFull n free k own reached (slice_index queue i)
