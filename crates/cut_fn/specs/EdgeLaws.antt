-- The laws of d with the weight 0 of each node.
use Rattle.std.specs.Prelude.{ℕ, List}
use Rattle.std.proofs.Common.{arith}
use Rattle.graph_core.specs.Side.{meet}
use Rattle.graph_core.specs.Lines.{degree}
use Rattle.graph_core.proofs.CutLaws.{degree_parts, degree_three}
use Rattle.graph_core.proofs.NodeLaws.{nodes_none}
use Rattle.cut_fn.specs.Submodular.{BoundsDifferences, BoundsThreeSides}
use Rattle.graph_core.specs.declared.graph.Line.{Line}

pub degree_bounds_differences : (n : ℕ) (ls : List Line) → BoundsDifferences n (λ X. degree X ls) (λ _. 0)
degree_bounds_differences n ls X Y x y = omega (arith, nodes_none (meet X Y), degree_parts ls X Y x y)

pub degree_bounds_three_sides : (n : ℕ) (ls : List Line) → BoundsThreeSides n (λ X. degree X ls) (λ _. 0)
degree_bounds_three_sides n ls X Y Z x y z = omega (arith, nodes_none (meet X (meet Y Z)), degree_three ls X Y Z x y z)
