use Rattle.std.proofs.Common.{◌≡◌, take, sum}
use Rattle.cut_fn.proofs.stars.total_count.Given as goal

abbrev pub invariant-loop-count : goal.invariant-loop-count
invariant-loop-count l = l.total ≡ sum (take l.count-index l.counts)
