-- Marks of arcs, one for each, and how they change. No public clause cites it.
use Rattle.std.specs.Prelude.{ℕ, ◌≡◌, ◌⊎◌, Bool, true, cond, List, length}
use Rattle.graph_core.specs.Side.{has}
use Rattle.graph_core.specs.Picked.{occurrences}
use Rattle.lucchesi_younger.specs.Kept.{IsIn}

-- true for the numbers of the list
pub record AreMarks (m : ℕ) (join : List ℕ) (marks : List Bool) : Type 0 where
  pub long : length marks ≡ m
  pub each : (j : ℕ) → has marks j ≡ true → IsIn join j
  pub all : (j : ℕ) → IsIn join j → has marks j ≡ true

-- each marked number once, and no other
abbrev pub AreListed : List Bool → List ℕ → Type 0
AreListed marks js = (j : ℕ) → occurrences j js ≡ cond (has marks j) 1 0

-- the marks of these numbers are taken off
pub record AreCleared (js : List ℕ) (old new : List Bool) : Type 0 where
  pub long : length new ≡ length old
  pub none : (j : ℕ) → IsIn js j → has new j ≡ true → ⊥
  pub each : (j : ℕ) → has new j ≡ true → has old j ≡ true
  pub kept : (j : ℕ) → has old j ≡ true → has new j ≡ true ⊎ IsIn js j

-- these numbers are marked too
pub record AreAdded (js : List ℕ) (old new : List Bool) : Type 0 where
  pub long : length new ≡ length old
  pub all : (j : ℕ) → IsIn js j → has new j ≡ true
  pub kept : (j : ℕ) → has old j ≡ true → has new j ≡ true
  pub each : (j : ℕ) → has new j ≡ true → has old j ≡ true ⊎ IsIn js j
