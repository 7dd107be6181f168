use Rattle.std.proofs.Common.{arith}
use Rattle.std.proofs.lemmas.Grind.{common_steps}
use Rattle.certificate_checker.proofs.LineCounts.{length-whole_lines}
use Rattle.certificate_checker.proofs.answer.line_count.Goals as goal

pub returns-clause-count : goal.returns-clause-count
returns-clause-count c = rw length-whole_lines (grind (arith, common_steps))
