use Rattle.std.proofs.Common.{◌≡◌, map}
use Rattle.std.specs.List.{range_with_len}
use Rattle.connect_gen.specs.Generated.{node_name}
use Rattle.connect_gen.proofs.generated.node_names.Given as goal

abbrev pub invariant-loop-v : goal.invariant-loop-v
invariant-loop-v l = l.names.items ≡ map node_name (range_with_len 0 l.v)
