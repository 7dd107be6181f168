-- A least cut into a digraph's nodes without a root. No public clause cites it.
use Rattle.std.specs.Prelude.{ℕ, ◌≡◌, ◌≤◌, Bool, false, List}
use Rattle.graph_core.specs.Side.{has, IsNonempty}
use Rattle.graph_core.specs.Lines.{entering}
use Rattle.graph_core.specs.declared.graph.Line.{Line}

-- a nonempty side without r that the fewest arcs enter
pub record IsLeastSide (n : ℕ) (ls : List Line) (r : ℕ) (X : List Bool) : Type 0 where
  pub nonempty : IsNonempty n X
  pub misses : has X r ≡ false
  pub least : (Y : List Bool) → IsNonempty n Y → has Y r ≡ false → entering X ls ≤ entering Y ls
