use Rattle.std.proofs.Common.{◌≡◌, ◌<◌, ◌≤◌, Some, length, get_or, inr, ap, ◌∙◌, arith}
use Rattle.std.specs.List.{position_or_len}
use Rattle.graph_text.specs.Lines.{is_line_feed}
use Rattle.std.proofs.lemmas.Bool.{eqb-true}
use Rattle.std.proofs.lemmas.List.Sums.{passes_at_first}
use Rattle.std.proofs.lemmas.Option.{slice_get-get_or}
use Rattle.graph_text.proofs.LinesLemmas.{lines_first, lines_last}
use Rattle.graph_text.proofs.line.first_line.Goals as goal

pub returns-then-line_feed-bytes-clause-lines : goal.returns-then-line_feed-bytes-clause-lines
returns-then-line_feed-bytes-clause-lines c =
    rw (c.split_at.ensures.front, c.split_at.ensures.back, c.line_feed_at-line_feed.ensures) (lines_first c.args.bytes.now c.requires)

pub returns-else-line_feed-bytes-clause-lines : goal.returns-else-line_feed-bytes-clause-lines
returns-else-line_feed-bytes-clause-lines c =
    let past : length c.args.bytes.now ≤ position_or_len is_line_feed c.args.bytes.now = omega (arith, c.line_feed_at-line_feed.ensures, c.if-line_feed-bytes.false) in
    rw (c.split_at-else-line_feed-bytes.ensures.front, c.split_at-else-line_feed-bytes.ensures.back) (lines_last c.args.bytes.now c.requires past)

pub returns-then-line_feed-bytes-clause-whole : goal.returns-then-line_feed-bytes-clause-whole
returns-then-line_feed-bytes-clause-whole c =
    let bytes = c.args.bytes.now in
    let at = position_or_len is_line_feed bytes in
    let within : at < length bytes = omega (arith, c.line_feed_at-line_feed.ensures, c.if-line_feed-bytes.true) in
    let here : get_or bytes at 0 ≡ 10 = eqb-true (get_or bytes at 0) 10 (passes_at_first is_line_feed bytes 0 within) in
    inr (at, omega (arith, c.line_feed_at-line_feed.ensures, c.split_at.ensures.front_len), slice_get-get_or bytes at 0 within ∙ ap Some here)
