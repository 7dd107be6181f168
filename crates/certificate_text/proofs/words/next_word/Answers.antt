use Rattle.std.proofs.Common.{◌≡◌, ◌+◌, ◌<◌, ◌≤◌, ◌∷◌, length, take, drop, sym, ap, ◌∙◌}
use Rattle.std.specs.List.{slice_split, position_or_len}
use Rattle.certificate_text.specs.WordsLeft.{is_blank, words_left}
use Rattle.certificate_text.proofs.CursorLaws.{first-word, only-word}
use Rattle.certificate_text.proofs.words.next_word.Goals as goal

pub returns-then-end-bytes : goal.returns-then-end-bytes
returns-then-end-bytes c =
    let bytes = c.in-More.bytes.now in
    let within : position_or_len is_blank bytes < length bytes = rw (← c.blank_at-end.ensures) (c.if-end-bytes.true) in
    let whole : slice_split is_blank bytes ≡ take c.blank_at-end.result bytes ∷ slice_split is_blank (drop (c.blank_at-end.result + 1) bytes) = rw c.blank_at-end.ensures (first-word bytes within) in
    ap words_left c.in-More.is ∙ whole ∙ (λ i. sym c.split_at.ensures.front i ∷ slice_split is_blank (sym c.split_at-then-end-bytes.ensures.back i))

pub returns-else-end-bytes : goal.returns-else-end-bytes
returns-else-end-bytes c =
    let bytes = c.in-More.bytes.now in
    let past : length bytes ≤ position_or_len is_blank bytes = rw (← c.blank_at-end.ensures) (c.if-end-bytes.false) in
    ap words_left c.in-More.is ∙ only-word bytes past
