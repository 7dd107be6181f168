use Rattle.std.proofs.Common.{◌<◌, ℕ, get_or}
use Rattle.matroid_union.specs.Parts.{own_of}
use Rattle.matroid_union.specs.Search.{IsShut}
use Rattle.matroid_union.proofs.ends.first_end.Given as goal

abbrev pub invariant-loop-at : goal.invariant-loop-at
invariant-loop-at g l = (i : ℕ) → i < l.at → IsShut (g.M.Matroid.count l.matroid) (g.M.Matroid.free l.matroid) l.k (own_of l.owner) (get_or l.queue i 0)
