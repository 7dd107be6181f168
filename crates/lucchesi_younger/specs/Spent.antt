-- Costs that were raised, arc by arc. No public clause cites it.
use Rattle.std.specs.Prelude.{ℕ, ◌≡◌, ◌≢◌, ◌+◌, ◌<◌, ◌≤◌, true, false, Bool, List, sum}
use Rattle.std.specs.Bool.{OnTrue, OnFalse}
use Rattle.graph_core.specs.declared.graph.Line.{Line}
use Rattle.lucchesi_younger.specs.Kept.{at, IsArc, IsIn}

-- the arcs below i that aren't fixed have their costs, and no arc has more
pub record IsSpent (ls : List Line) (costs : List ℕ) (i : ℕ) (now : List ℕ) : Type 0 where
  pub below : (j : ℕ) (l : Line) → j < i → IsArc ls j l → l.fixed ≡ false → at now j ≡ at costs j
  pub within : (j : ℕ) → at now j ≤ at costs j

-- the cost of arc i alone rose, to c unless another dijoin had to be taken before
pub record IsRaised (i c : ℕ) (old new : List ℕ) (other : Bool) : Type 0 where
  pub others : (j : ℕ) → j ≢ i → at new j ≡ at old j
  pub most : at new i ≤ c
  pub sums : sum new + at old i ≡ sum old + at new i
  pub rose : OnTrue other (at old i < at new i)
  pub done : OnFalse other (at new i ≡ c)

-- the arcs below i outside the dijoin rose to their costs, but for fixed ones, and no other arc did
pub record AreRisen (ls : List Line) (join costs : List ℕ) (i : ℕ) (old new : List ℕ) : Type 0 where
  pub risen : (j : ℕ) (l : Line) → j < i → IsArc ls j l → l.fixed ≡ false → (IsIn join j → ⊥) → at new j ≡ at costs j
  pub fixed : (j : ℕ) (l : Line) → IsArc ls j l → l.fixed ≡ true → at new j ≡ at old j
  pub taken : (j : ℕ) → IsIn join j → at new j ≡ at old j
