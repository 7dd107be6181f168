use Rattle.std.proofs.Common.{◌≡◌, take}
use Rattle.graph_core.specs.Pairs.{pairs_of}
use Rattle.graph_core.proofs.pairs.written_out.Given as goal

abbrev pub invariant-loop-u : goal.invariant-loop-u
invariant-loop-u l = l.pairs ≡ pairs_of (take l.u-index l.rows)
