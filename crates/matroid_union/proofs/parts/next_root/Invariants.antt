use Rattle.std.proofs.Common.{◌≡◌, ℕ, ◌<◌, true, None}
use Rattle.graph_core.specs.Side.{has}
use Rattle.matroid_union.specs.Parts.{own_of}
use Rattle.matroid_union.proofs.parts.next_root.Given as goal

abbrev pub invariant-loop-i : goal.invariant-loop-i
invariant-loop-i l = (e : ℕ) → e < l.i → own_of l.owner e ≡ None → has l.dead e ≡ true
