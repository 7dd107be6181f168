use Rattle.std.proofs.Common.{◌≡◌, length}
use Rattle.graphic_matroid.proofs.classes.zeros.Given as goal

abbrev pub invariant-loop : goal.invariant-loop
invariant-loop l = length l.numbers.items ≡ l.counter
