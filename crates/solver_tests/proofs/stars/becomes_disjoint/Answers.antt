use Rattle.solver_tests.proofs.stars.becomes_disjoint.Goals as goal

pub disjoin-requires-clause-covered : goal.disjoin-requires-clause-covered
disjoin-requires-clause-covered g c = rw c.new-cut.ensures c.requires
