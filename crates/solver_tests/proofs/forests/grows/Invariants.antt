use Rattle.solver_tests.proofs.forests.grows.Given as goal

abbrev pub invariant-loop-first : goal.invariant-loop-first
invariant-loop-first g l = g.M.Matroid.keeps l.matroid l.set
