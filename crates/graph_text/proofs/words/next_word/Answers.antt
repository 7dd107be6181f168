use Rattle.std.proofs.Common.{sym, ◌∙◌, arith}
use Rattle.graph_text.proofs.LinesLemmas.{words_begin, blank_within}
use Rattle.graph_text.proofs.words.next_word.Goals as goal

pub split_at-requires : goal.split_at-requires
split_at-requires c = omega (arith, c.blank_at-end.ensures, blank_within c.loop-rest.rest.now)

pub returns-then-not-is_blank : goal.returns-then-not-is_blank
returns-then-not-is_blank c =
    let rest = c.loop-rest.rest.now in
    sym c.loop-rest.invariant ∙ rw (c.split_at.ensures.front, c.split_at.ensures.back) (words_begin rest c.blank_at-end.result c.blank_at-end.ensures (omega (arith, c.in-len1-up.len_at_least)) (sym c.is_blank.ensures ∙ c.if-not-is_blank.true))
