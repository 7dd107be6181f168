use Rattle.std.proofs.Common.{◌≡◌, ◌+◌, ◌-◌, ◌*◌, ◌++◌, map}
use Rattle.std.specs.List.{range_with_len}
use Rattle.connect_gen.specs.Draws.{state}
use Rattle.connect_gen.specs.Generated.{tree_line, further_line}
use Rattle.connect_gen.proofs.generated.lines.Given as goal

abbrev pub invariant-loop-i : goal.invariant-loop-i
invariant-loop-i l = record {
  state : l.draws.state ≡ state l.number (l.i - 1);
  lines : l.lines.items ≡ map (tree_line l.number) (range_with_len 1 (l.i - 1));
}

abbrev pub invariant-loop-j : goal.invariant-loop-j
invariant-loop-j l = record {
  state : l.draws.state ≡ state l.number (l.nodes - 1 + 2 * l._j);
  lines : l.lines.items ≡ map (tree_line l.number) (range_with_len 1 (l.nodes - 1)) ++ map (further_line l.number l.nodes) (range_with_len 0 l._j);
}
