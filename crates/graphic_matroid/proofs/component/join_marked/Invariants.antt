use Rattle.std.proofs.Common.{ℕ, ◌<◌, ◌≤◌, length, get_or, take}
use Rattle.graphic_matroid.specs.Chosen.{chosen}
use Rattle.graphic_matroid.specs.Roots.{AreRoots, AreClasses}
use Rattle.graphic_matroid.proofs.component.join_marked.Given as goal

abbrev pub invariant-loop-j : goal.invariant-loop-j
invariant-loop-j l = record {
  roots : AreRoots (length l.fn.classes.parents.items) l.classes.parents.items l.classes.ranks.items;
  low : (v : ℕ) → v < length l.fn.classes.parents.items → get_or l.classes.ranks.items v 0 ≤ l.j;
  classes : AreClasses (length l.fn.classes.parents.items) l.classes.parents.items (chosen (take l.j l.marks) (take l.j l.lines));
}
