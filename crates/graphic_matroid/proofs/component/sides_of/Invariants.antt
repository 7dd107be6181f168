use Rattle.std.proofs.Common.{◌≡◌, ◌==◌, length, map}
use Rattle.std.specs.Prelude.{slice_index}
use Rattle.std.specs.List.{filter, range_with_len}
use Rattle.graph_core.specs.Labels.{class}
use Rattle.graphic_matroid.proofs.component.sides_of.Given as goal

abbrev pub invariant-loop-v : goal.invariant-loop-v
invariant-loop-v l = l.sides ≡ map (class (length l.roots) (slice_index l.roots)) (filter (λ r. slice_index l.roots r == r) (range_with_len 0 l.v))
