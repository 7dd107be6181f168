use Rattle.std.proofs.Common.{◌≡◌, ℕ, ◌<◌, length, get_or}
use Rattle.graphic_matroid.proofs.classes.Classes.reset.Given as goal

abbrev pub invariant-loop-i : goal.invariant-loop-i
invariant-loop-i l = record {
  parents_long : length l.self.parents.items ≡ length l.initial.self.parents.items;
  ranks_long : length l.self.ranks.items ≡ length l.initial.self.parents.items;
  parents : (v : ℕ) → v < l.i → get_or l.self.parents.items v 0 ≡ v;
  ranks : (v : ℕ) → v < l.i → get_or l.self.ranks.items v 0 ≡ 0;
}
