use Rattle.std.proofs.Common.{◌∙◌}
use Rattle.word_sides.proofs.WordLaws.{value-put_same, value-put_other}
use Rattle.word_sides.proofs.lanes.put_value.Goals as goal

pub returns-clause-here : goal.returns-clause-here
returns-clause-here c = value-put_same c.args.words.now c.args.v c.with_bit.result c.requires ∙ c.with_bit.ensures.here

pub returns-clause-elsewhere : goal.returns-clause-elsewhere
returns-clause-elsewhere c = value-put_other c.args.words.now c.args.v c.with_bit.result c.requires c.with_bit.ensures.elsewhere
