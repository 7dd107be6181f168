use Rattle.std.proofs.Common.{ℕ, ◌≡◌, ◌<◌, length, get_or}
use Rattle.graphic_matroid.specs.Roots.{IsRootOf}
use Rattle.graphic_matroid.proofs.component.roots_of.Given as goal

abbrev pub invariant-loop-v : goal.invariant-loop-v
invariant-loop-v l = record {
  long : length l.roots.items ≡ l.v;
  each : (u : ℕ) → u < l.v → IsRootOf l.classes.parents.items u (get_or l.roots.items u 0);
}
