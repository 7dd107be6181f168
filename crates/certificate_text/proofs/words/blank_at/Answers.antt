use Rattle.std.proofs.Common.{rules, sym, le_refl}
use Rattle.std.proofs.lemmas.List.Sums.{position_or_len_is}
use Rattle.certificate_text.specs.WordsLeft.{is_blank}
use Rattle.certificate_text.proofs.words.blank_at.Goals as goal

pub returns-then-byte-eq32 : goal.returns-then-byte-eq32
returns-then-byte-eq32 c = sym (position_or_len_is is_blank c.args.bytes.now c.loop-at.at 0 (search rules) c.loop-at.invariant (λ _. search rules))

pub returns : goal.returns
returns c = sym (position_or_len_is is_blank c.args.bytes.now _ 0 (le_refl _) (search rules) (λ l. search rules))
