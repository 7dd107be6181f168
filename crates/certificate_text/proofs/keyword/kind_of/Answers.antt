use Rattle.std.proofs.Common.{◌≡◌, ℕ, ◌<◌, get_or, lit<, arith}
use Rattle.certificate_text.specs.declared.line.DualKind.{DualKind}
use Rattle.certificate_text.specs.declared.line.DualKind.TheVariants.{Cut, Components, Subpartition, In, Out, Partition, Induced, Nothing, Dicuts, Dicut}
use Rattle.certificate_text.specs.declared.keyword.TheConstants.{KINDS}
use Rattle.certificate_text.specs.Words.{dual_word}
use Rattle.certificate_text.proofs.keyword.kind_of.Goals as goal

-- what holds of each place of the table holds of each kind
each : (P : DualKind → Type 0) → ((k : ℕ) → k < 10 → P (get_or KINDS k Cut)) → (a : DualKind) → P a
each P all Cut = all 0 (lit< tt)
each P all Components = all 1 (lit< tt)
each P all Subpartition = all 2 (lit< tt)
each P all In = all 3 (lit< tt)
each P all Out = all 4 (lit< tt)
each P all Partition = all 5 (lit< tt)
each P all Induced = all 6 (lit< tt)
each P all Nothing = all 7 (lit< tt)
each P all Dicuts = all 8 (lit< tt)
each P all Dicut = all 9 (lit< tt)

pub returns : goal.returns
returns c = λ a _ same. each (λ b. dual_word b ≡ c.args.word.now → ⊥) (λ k l. c.loop-kind.invariant k (omega arith)) a same
