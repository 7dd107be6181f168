-- What holds of what a run changes, before the run and after it. No public clause cites it.
use Rattle.std.specs.Prelude.{◌≡◌, ℕ, ◌<◌, ◌≤◌, List, length, Bool}
use Rattle.flow_cuts.specs.declared.network.Cap.{Cap}
use Rattle.flow_cuts.specs.declared.network.Link.{Link}
use Rattle.flow_cuts.specs.declared.residual.Residual.{Residual}
use Rattle.flow_cuts.specs.Residual.{SameEnds, SameSums, IsFlow}
use Rattle.flow_cuts.specs.Cuts.{IsSmallestCut, IsLargestCut}

-- the links are those of the whole network with other rooms, and the rest is as long as it has to be
pub record IsReady (n : ℕ) (whole : List Link) (r : Residual) : Type 0 where
  pub ends : SameEnds whole r.links.items
  pub sums : SameSums whole r.links.items
  pub mirror : length r.mirror.items ≡ length whole
  pub marks : length r.tree.marks.items ≡ n
  pub queue : length r.tree.queue.items ≡ n
  pub next : length r.next.items ≡ n
  pub near : length r.near ≡ n
  pub far : length r.far ≡ n

-- what a run leaves: a flow, and where it fell short of its limit the two sides
pub record HasRun (n : ℕ) (inside outside : List Bool) (arcs : List Cap) (stop answer : ℕ) (r : Residual) : Type 0 where
  pub most : answer ≤ stop
  pub flow : IsFlow n inside outside arcs r.links.items answer
  pub smallest : answer < stop → IsSmallestCut n inside outside arcs answer r.near
  pub largest : answer < stop → IsLargestCut n inside outside arcs answer r.far
