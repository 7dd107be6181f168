use Rattle.std.proofs.Common.{◌≡◌, ℕ, ◌<◌, false, get_or}
use Rattle.graph_text.specs.Lines.{is_line_feed}
use Rattle.graph_text.proofs.line.line_feed_at.Given as goal

abbrev pub invariant-loop-at : goal.invariant-loop-at
invariant-loop-at l = (k : ℕ) → k < l.at → is_line_feed (get_or l.bytes k 0) ≡ false
