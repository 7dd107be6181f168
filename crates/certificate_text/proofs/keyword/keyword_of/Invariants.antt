use Rattle.std.proofs.Common.{◌≡◌, ℕ, ◌<◌, get_or}
use Rattle.certificate_text.specs.declared.keyword.Keyword.TheVariants.{Certificate}
use Rattle.certificate_text.specs.Keywords as words_of
use Rattle.certificate_text.proofs.keyword.keyword_of.Given as goal

abbrev pub invariant-loop-keyword : goal.invariant-loop-keyword
invariant-loop-keyword l = (k : ℕ) → k < l.keyword-index → words_of.keyword_word (get_or l.keyword-items k Certificate) ≡ l.word → ⊥
