use Rattle.std.proofs.Common.{◌≡◌, ℕ, ◌<◌, ◌-◌, length, get_or}
use Rattle.std.specs.Prelude.{sum}
use Rattle.graphic_matroid.proofs.classes.Classes.root.Given as goal

abbrev pub invariant-climb : goal.invariant-climb
invariant-climb l = record {
  below : l.at < length l.self.parents.items;
  same : (label : ℕ → ℕ) → ((v : ℕ) → v < length l.self.parents.items → label (get_or l.self.parents.items v 0) ≡ label v) → label l.at ≡ label l.node;
}

abbrev pub decreases-climb : goal.decreases-climb
decreases-climb l = sum l.self.ranks.items - get_or l.self.ranks.items l.at 0
