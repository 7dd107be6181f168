-- The blanks so far are filled.
use Rattle.std.proofs.Common.{ℕ, ◌+◌, ◌<◌, map, slice_get, string_bytes}
use Rattle.connect_words.specs.Blanks.{Takes}
use Rattle.connect_words.proofs.words.filled.Given as goal

abbrev pub invariant-loop-at : goal.invariant-loop-at
invariant-loop-at l = (k : ℕ) → k < l.at → Takes (slice_get l.blanks k) (slice_get (map string_bytes l.words) (k + 1))
