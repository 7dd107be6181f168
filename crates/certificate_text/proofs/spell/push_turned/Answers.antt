use Rattle.std.proofs.Common.{◌≤◌, ◌++◌, length, ◌∙◌, arith}
use Rattle.std.proofs.lemmas.List.{take_all}
use Rattle.graph_core.specs.Graph.{Fits}
use Rattle.certificate_text.specs.Lines.{turned_lines}
use Rattle.certificate_text.specs.Text.{spelling}
use Rattle.certificate_text.proofs.WriteLaws.{item-holds, turned-wrote}
use Rattle.certificate_text.proofs.spell.push_turned.Goals as goal

pub push_turned_line-requires : goal.push_turned_line-requires
push_turned_line-requires c =
    let g = c.args.graph.now in
    item-holds (Fits (length g.names)) g.lines c.loop-j.j c.line.result c.known.ensures.makes.ends c.line.ensures

pub loop-j-preserved : goal.loop-j-preserved
loop-j-preserved c =
    let g = c.args.graph.now in
    turned-wrote g c.args.heads.now c.loop-j.j c.args.text.now.items c.loop-j.text.items c.push_turned_line.new.text.items c.line.result c.item.result.now c.line.ensures c.item.ensures c.loop-j.invariant c.in_ok-push_turned_line.ensures

pub returns : goal.returns
returns c =
    let g = c.args.graph.now in
    let heads = c.args.heads.now in
    let j = c.loop-j.j in
    let past : length g.lines ≤ j = omega arith in
    let past' : length heads ≤ j = omega arith in
    c.loop-j.invariant ∙ (λ i. c.args.text.now.items ++ spelling g (turned_lines (take_all j g.lines past i) (take_all j heads past' i)))
