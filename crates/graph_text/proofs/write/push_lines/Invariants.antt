use Rattle.std.proofs.Common.{◌≡◌, ◌++◌, map, take}
use Rattle.std.specs.List.{flat_map}
use Rattle.graph_text.specs.Text.{ends_in}
use Rattle.graph_text.specs.PlainText.{ends_line}
use Rattle.graph_text.proofs.write.push_lines.Given as goal

abbrev pub invariant-loop-j : goal.invariant-loop-j
invariant-loop-j l = l.text.items ≡ l.initial.text.items ++ flat_map (ends_line l.graph.kind) (map (ends_in l.graph.names) (take l.j l.graph.lines))
