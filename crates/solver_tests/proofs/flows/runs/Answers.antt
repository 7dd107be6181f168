use Rattle.std.proofs.Common.{ap, arith}
use Rattle.solver_tests.proofs.flows.runs.Goals as goal

pub side-requires-clause-short : goal.side-requires-clause-short
side-requires-clause-short g c = (_, ap (λ f. f.last) c.run-answer-2.ensures.ran, omega arith)

pub wide_side-requires-clause-short : goal.wide_side-requires-clause-short
wide_side-requires-clause-short g c = (_, ap (λ f. f.last) c.run-answer-2.ensures.ran, omega arith)
