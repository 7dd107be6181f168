use Rattle.std.proofs.Common.{◌≡◌, replicate, false}
use Rattle.matroid_union.proofs.search.blank.Given as goal

abbrev pub invariant-loop : goal.invariant-loop
invariant-loop l = l.set ≡ replicate l.counter false
