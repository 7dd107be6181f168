use Rattle.std.proofs.Common.{ap}
use Rattle.edmonds_branchings.proofs.arborescences.lower.Goals as goal

pub side-requires-clause-short : goal.side-requires-clause-short
side-requires-clause-short c = (_, ap (λ v. v.last) c.run-answer.ensures.ran, c.if-answer-value.true)
