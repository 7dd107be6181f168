use Rattle.std.proofs.Common.{◌≡◌, take, sum}
use Rattle.augment_edges.proofs.even.counted.Given as goal

abbrev pub invariant-loop-v : goal.invariant-loop-v
invariant-loop-v l = sum (take l.v l.counts) ≡ 0
