use Rattle.cut_fn.specs.Covered.{AreTight}
use Rattle.solver_tests.proofs.stars.tight_sides.Given as goal

abbrev pub invariant-loop-nodes : goal.invariant-loop-nodes
invariant-loop-nodes g l = AreTight (g.F.CutFn.nodes l.f) l.k (g.F.CutFn.cut l.f) l.family
