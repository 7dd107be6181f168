use Rattle.std.proofs.Common.{ap, inr, ◌+◌}
use Rattle.certificate_checker.proofs.Ends.{goes-on}
use Rattle.certificate_checker.proofs.answer.check.Goals as goal

pub returns-then-count-bytes-clause-rejected : goal.returns-then-count-bytes-clause-rejected
returns-then-count-bytes-clause-rejected c =
    inr (goes-on c.args.graph.now c.args.bytes.now c.in-Ok.found.0 c.in-Ok.found.1 (c.line_count-line.result + 1) c.known.ensures c.in-Ok.ensures.ok c.if-count-bytes.true (ap (λ n. n + 1) c.line_count-line.ensures.count))
