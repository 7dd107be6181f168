use Rattle.std.proofs.Common.{◌+◌, ◌*◌, ◌∙◌, arith}
use Rattle.word_sides.proofs.BitLaws.{bit-low, bit-ones, ltb-same}
use Rattle.word_sides.proofs.lanes.full_word.Goals as goal

pub returns-then-rest-lt64 : goal.returns-then-rest-lt64
returns-then-rest-lt64 c b l = bit-low c.saturating_sub-rest.result b c.if-rest-lt64.true ∙ ltb-same b c.saturating_sub-rest.result (64 * c.args.j + b) c.args.n (λ h. omega arith) (λ h. omega arith)

pub returns-else-rest-lt64 : goal.returns-else-rest-lt64
returns-else-rest-lt64 c b l = bit-ones 64 b ∙ ltb-same b 64 (64 * c.args.j + b) c.args.n (λ h. omega arith) (λ h. omega arith)
