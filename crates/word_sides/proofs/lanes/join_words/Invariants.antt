use Rattle.std.proofs.Common.{◌≡◌, ℕ, ◌<◌, ◌≤◌, get_or}
use Rattle.std.specs.Prelude.{bit_or}
use Rattle.word_sides.proofs.lanes.join_words.Given as goal

abbrev pub invariant-loop-j : goal.invariant-loop-j
invariant-loop-j l = record {
  done : (k : ℕ) → k < l.j → get_or l.into k 0 ≡ bit_or (get_or l.initial.into k 0) (get_or l.other k 0);
  left : (k : ℕ) → l.j ≤ k → get_or l.into k 0 ≡ get_or l.initial.into k 0;
}
