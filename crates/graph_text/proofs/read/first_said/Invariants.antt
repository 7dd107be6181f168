use Rattle.std.proofs.Common.{length}
use Rattle.graph_text.proofs.SkipLemmas.{Skipping}
use Rattle.graph_text.proofs.read.first_said.Given as goal

abbrev pub invariant-loop-rest : goal.invariant-loop-rest
invariant-loop-rest l = Skipping l.bytes l.rest l.at

abbrev pub decreases-loop-rest : goal.decreases-loop-rest
decreases-loop-rest l = length l.rest
