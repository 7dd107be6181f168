use Rattle.std.proofs.Common.{length}
use Rattle.graph_text.proofs.ReadLemmas.{Reading}
use Rattle.graph_text.proofs.read.read_lines.Given as goal

abbrev pub invariant-loop-rest : goal.invariant-loop-rest
invariant-loop-rest l = Reading l.bytes l.rest l.line l.draft

abbrev pub decreases-loop-rest : goal.decreases-loop-rest
decreases-loop-rest l = length l.rest
