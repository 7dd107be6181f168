use Rattle.std.proofs.Common.{◌≡◌, ◌++◌, take}
use Rattle.lucchesi_younger.proofs.dual.append.Given as goal

abbrev pub invariant-more : goal.invariant-more
invariant-more l = l.sides ≡ l.initial.sides ++ take l.side-index l.items
