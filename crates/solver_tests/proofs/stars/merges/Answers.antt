use Rattle.solver_tests.proofs.stars.merges.Goals as goal

pub merge-requires-clause-covered : goal.merge-requires-clause-covered
merge-requires-clause-covered g c = rw c.new-enter.ensures c.requires
