-- Free sets that grow, one for each part. No public clause cites it.
use Rattle.std.specs.Prelude.{◌≡◌, ℕ, Bool, List, length, slice_get, Some}
use Rattle.graph_core.specs.Sets.{set_of}

-- a set that has the elements below n that pass a test, and no other
pub record IsFilled {S : Type 0} (keeps : S → Type 0) (members : S → List Bool) (n : ℕ) (f : ℕ → Bool) (set : S) : Type 0 where
  pub kept : keeps set
  pub just : members set ≡ set_of n f

-- k sets, whatever they have
pub record AreKept {S : Type 0} (keeps : S → Type 0) (k : ℕ) (sets : List S) : Type 0 where
  pub many : length sets ≡ k
  pub each : (p : ℕ) (set : S) → slice_get sets p ≡ Some set → keeps set

-- k sets, where set p has the elements below n that pass test p, and no other
pub record AreFilled {S : Type 0} (keeps : S → Type 0) (members : S → List Bool) (n k : ℕ) (f : ℕ → ℕ → Bool) (sets : List S) : Type 0 where
  pub many : length sets ≡ k
  pub each : (p : ℕ) (set : S) → slice_get sets p ≡ Some set → IsFilled keeps members n (f p) set
