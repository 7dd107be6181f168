use Rattle.std.proofs.Common.{◌≡◌, length, arith}
use Rattle.certificate_text.proofs.WriteLaws.{item-holds, item-more, items-all}
use Rattle.certificate_text.specs.Text.{line_text}
use Rattle.certificate_text.specs.declared.line.CertLine.TheVariants as line
use Rattle.certificate_text.proofs.spell.push_sets.Goals as goal

pub push_set-requires : goal.push_set-requires
push_set-requires c = item-holds (λ X. length X ≡ length c.args.graph.now.names) c.args.sides.now c.loop-at.at c.item.result.now c.requires c.item.ensures

pub loop-at-preserved : goal.loop-at-preserved
loop-at-preserved c = item-more (λ X. line_text c.args.graph.now (line.Set X)) c.args.sides.now c.loop-at.at c.item.result.now c.args.text.now.items c.loop-at.text.items c.push_set.new.text.items c.item.ensures c.loop-at.invariant c.in_ok-push_set.ensures

pub returns : goal.returns
returns c = items-all (λ X. line_text c.args.graph.now (line.Set X)) c.args.sides.now c.loop-at.at c.args.text.now.items c.loop-at.text.items (omega arith) c.loop-at.invariant
