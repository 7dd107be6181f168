use Rattle.std.proofs.Common.{◌<◌, length, arith}
use Rattle.certificate_text.proofs.WriteLaws.{item-holds, item-more, items-all}
use Rattle.certificate_text.specs.Words as words_of
use Rattle.certificate_text.proofs.spell.push_pairs.Goals as goal

pub push_pair_line-requires : goal.push_pair_line-requires
push_pair_line-requires c = let both = item-holds (λ p. (p.0 < length c.args.graph.now.names) × (p.1 < length c.args.graph.now.names)) c.args.pairs.now c.loop-at.at c.item.result.now c.requires c.item.ensures in record { tail = both.0; head = both.1 }

pub loop-at-preserved : goal.loop-at-preserved
loop-at-preserved c = item-more (words_of.pair_line c.args.graph.now c.args.word.now) c.args.pairs.now c.loop-at.at c.item.result.now c.args.text.now.items c.loop-at.text.items c.push_pair_line.new.text.items c.item.ensures c.loop-at.invariant c.in_ok-push_pair_line.ensures

pub returns : goal.returns
returns c = items-all (words_of.pair_line c.args.graph.now c.args.word.now) c.args.pairs.now c.loop-at.at c.args.text.now.items c.loop-at.text.items (omega arith) c.loop-at.invariant
