-- The two sides of a run in the network of a star, whose new node is node n. No public clause cites it.
use Rattle.std.specs.Prelude.{ℕ, ◌≡◌, ◌⊎◌, Bool, true, List}
use Rattle.graph_core.specs.Side.{has}

-- the nodes held are inside; the node missed and the new one are outside, and no other
pub record AreRunSides (n : ℕ) (H : List Bool) (w : ℕ) (I O : List Bool) : Type 0 where
  pub inside : (v : ℕ) → has I v ≡ has H v
  pub missed : has O w ≡ true
  pub last : has O n ≡ true
  pub others : (v : ℕ) → has O v ≡ true → (v ≡ w) ⊎ (v ≡ n)
