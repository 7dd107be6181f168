use Rattle.std.proofs.Common.{◌≡◌, ℕ, ◌<◌, ◌≤◌, get_or}
use Rattle.word_sides.specs.Words.{without}
use Rattle.word_sides.proofs.lanes.part_words.Given as goal

abbrev pub invariant-loop-j : goal.invariant-loop-j
invariant-loop-j l = record {
  x_done : (k : ℕ) → k < l.j → get_or l.x k 0 ≡ without (get_or l.initial.x k 0) (get_or l.initial.y k 0);
  y_done : (k : ℕ) → k < l.j → get_or l.y k 0 ≡ without (get_or l.initial.y k 0) (get_or l.initial.x k 0);
  x_left : (k : ℕ) → l.j ≤ k → get_or l.x k 0 ≡ get_or l.initial.x k 0;
  y_left : (k : ℕ) → l.j ≤ k → get_or l.y k 0 ≡ get_or l.initial.y k 0;
}
