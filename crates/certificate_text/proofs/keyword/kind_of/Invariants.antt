use Rattle.std.proofs.Common.{◌≡◌, ℕ, ◌<◌, get_or}
use Rattle.certificate_text.specs.declared.line.DualKind.TheVariants.{Cut}
use Rattle.certificate_text.specs.Words as words_of
use Rattle.certificate_text.proofs.keyword.kind_of.Given as goal

abbrev pub invariant-loop-kind : goal.invariant-loop-kind
invariant-loop-kind l = (k : ℕ) → k < l.kind-index → words_of.dual_word (get_or l.kind-items k Cut) ≡ l.word → ⊥
