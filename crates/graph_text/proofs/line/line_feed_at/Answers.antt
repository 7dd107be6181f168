use Rattle.std.proofs.Common.{rules, sym, le_refl}
use Rattle.std.proofs.lemmas.List.Sums.{position_or_len_is}
use Rattle.graph_text.specs.Lines.{is_line_feed}
use Rattle.graph_text.proofs.line.line_feed_at.Goals as goal

pub returns-then-byte-eq10 : goal.returns-then-byte-eq10
returns-then-byte-eq10 c = sym (position_or_len_is is_line_feed c.args.bytes.now c.loop-at.at 0 (search rules) c.loop-at.invariant (λ _. search rules))

pub returns : goal.returns
returns c = sym (position_or_len_is is_line_feed c.args.bytes.now _ 0 (le_refl _) (search rules) (λ l. search rules))
