use Rattle.std.proofs.Common.{◌<◌, All, arith}
use Rattle.certificate_text.proofs.WriteLaws.{item-holds, item-more, items-all}
use Rattle.certificate_text.specs.Words as words_of
use Rattle.certificate_text.proofs.spell.push_rows.Goals as goal

pub push_numbers_line-requires : goal.push_numbers_line-requires
push_numbers_line-requires c = item-holds (All (λ j. j < 65536)) c.args.rows.now c.loop-at.at c.item.result.now c.requires c.item.ensures

pub loop-at-preserved : goal.loop-at-preserved
loop-at-preserved c = item-more (words_of.numbers_line c.args.word.now) c.args.rows.now c.loop-at.at c.item.result.now c.args.text.now.items c.loop-at.text.items c.push_numbers_line.new.text.items c.item.ensures c.loop-at.invariant c.in_ok-push_numbers_line.ensures

pub returns : goal.returns
returns c = items-all (words_of.numbers_line c.args.word.now) c.args.rows.now c.loop-at.at c.args.text.now.items c.loop-at.text.items (omega arith) c.loop-at.invariant
