-- The laws of free sets.
use Rattle.std.specs.Prelude.{◌≡◌, ℕ, ◌<◌, Bool, true, false, List, length, replicate, slice_set}
use Rattle.graph_core.specs.Side.{has, size}

-- a member of B that isn't in A, and that A can take and stay free
pub record Takes (n : ℕ) (free : List Bool → Type 0) (A B : List Bool) : Type 0 where
  pub taken : ℕ
  pub below : taken < n
  pub theirs : has B taken ≡ true
  pub fresh : has A taken ≡ false
  pub stays : free (slice_set A taken true)

pub record IsMatroid (n : ℕ) (free : List Bool → Type 0) : Type 0 where
  -- the empty set is free
  pub empty : free (replicate n false)
  -- a subset of a free set is free
  pub part : (A B : List Bool) → length A ≡ n → length B ≡ n → ((e : ℕ) → e < n → has A e ≡ true → has B e ≡ true) → free B → free A
  -- a free set with fewer members than another can take one of the other's
  pub take : (A B : List Bool) → length A ≡ n → length B ≡ n → free A → free B → size A < size B → Takes n free A B

-- as many elements, and the same sets free
pub record IsAlike (n : ℕ) (free : List Bool → Type 0) (n' : ℕ) (free' : List Bool → Type 0) : Type 0 where
  pub count : n ≡ n'
  pub forth : (X : List Bool) → free X → free' X
  pub back : (X : List Bool) → free' X → free X
