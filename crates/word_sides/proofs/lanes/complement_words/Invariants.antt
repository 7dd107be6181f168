use Rattle.std.proofs.Common.{◌≡◌, ℕ, ◌+◌, ◌*◌, ◌<◌, ◌≤◌, not, cond, ltb, get_or}
use Rattle.word_sides.specs.Words.{bit}
use Rattle.word_sides.proofs.lanes.complement_words.Given as goal

abbrev pub invariant-loop-j : goal.invariant-loop-j
invariant-loop-j l = record {
  done : (k b : ℕ) → k < l.j → b < 64 → bit (get_or l.words k 0) b ≡ cond (ltb (64 * k + b) l.n) (not (bit (get_or l.initial.words k 0) b)) (bit (get_or l.initial.words k 0) b);
  left : (k : ℕ) → l.j ≤ k → get_or l.words k 0 ≡ get_or l.initial.words k 0;
}
