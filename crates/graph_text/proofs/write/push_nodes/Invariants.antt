use Rattle.std.proofs.Common.{◌≡◌, ◌++◌, take}
use Rattle.std.specs.List.{flat_map, zip}
use Rattle.graph_text.specs.PlainText.{node_line}
use Rattle.graph_text.proofs.write.push_nodes.Given as goal

abbrev pub invariant-loop-v : goal.invariant-loop-v
invariant-loop-v l = l.text.items ≡ l.initial.text.items ++ flat_map node_line (take l.v (zip l.graph.names l.graph.numbers))
