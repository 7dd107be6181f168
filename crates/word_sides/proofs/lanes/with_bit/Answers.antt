use Rattle.std.proofs.Common.{ap, sym, ◌∙◌, eqb}
use Rattle.std.specs.Int.{w64}
use Rattle.std.proofs.lemmas.Nat.Bits.{bit_at_set_same, bit_at_set_other, bit_at_clear_same, bit_at_clear_other}
use Rattle.word_sides.proofs.lanes.with_bit.Goals as goal

pub returns-then-on-clause-here : goal.returns-then-on-clause-here
returns-then-on-clause-here c = ap (λ x. eqb x 1) (bit_at_set_same w64 c.args.word c.args.b c.requires) ∙ sym c.if-on.true

pub returns-then-on-clause-elsewhere : goal.returns-then-on-clause-elsewhere
returns-then-on-clause-elsewhere c i l ne = ap (λ x. eqb x 1) (bit_at_set_other w64 c.args.word c.args.b c.requires i ne)

pub returns-else-on-clause-here : goal.returns-else-on-clause-here
returns-else-on-clause-here c = ap (λ x. eqb x 1) (bit_at_clear_same w64 c.args.word c.args.b c.requires) ∙ sym c.if-on.false

pub returns-else-on-clause-elsewhere : goal.returns-else-on-clause-elsewhere
returns-else-on-clause-elsewhere c i l ne = ap (λ x. eqb x 1) (bit_at_clear_other w64 c.args.word c.args.b c.requires i l ne)
