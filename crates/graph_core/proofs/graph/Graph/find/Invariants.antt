use Rattle.std.proofs.Common.{◌≢◌, ℕ, ◌<◌, List, get_or}
use Rattle.graph_core.proofs.graph.Graph.find.Given as goal

abbrev pub invariant-loop-v : goal.invariant-loop-v
invariant-loop-v l = (k : ℕ) (d : List ℕ) → k < l.v → get_or l.self.names k d ≢ l.name
