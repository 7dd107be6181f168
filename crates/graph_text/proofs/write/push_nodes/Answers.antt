use Rattle.std.proofs.Common.{◌≡◌, ℕ, ◌+◌, ◌≤◌, List, ◌++◌, length, take, take_all, arith, slice_get, Some, sym, ap, ◌∙◌, append_assoc}
use Rattle.std.specs.List.{flat_map, zip}
use Rattle.std.proofs.lemmas.List.{length-map}
use Rattle.std.proofs.lemmas.Slice.Zip.{firsts-zip}
use Rattle.indexmap.proofs.ReorderLemmas.{slice_get-zip_some}
use Rattle.graph_text.specs.PlainText.{node_line}
use Rattle.graph_text.proofs.ListLemmas.{take_next, flat_map-push}
use Rattle.graph_text.proofs.write.push_nodes.Goals as goal

pub loop-v-preserved : goal.loop-v-preserved
loop-v-preserved c =
    let all = zip c.args.graph.now.names c.args.graph.now.numbers in
    let at = c.loop-v.v in
    let node : List ℕ × ℕ = (c.name.result.now, c.number.result) in
    let start = c.args.text.now.items in
    let here : slice_get all at ≡ Some node = slice_get-zip_some c.args.graph.now.names c.args.graph.now.numbers at c.name.result.now c.number.result c.name.ensures c.number.ensures in
    let more : flat_map node_line (take (at + 1) all) ≡ flat_map node_line (take at all) ++ node_line node = ap (flat_map node_line) (take_next all at node here) ∙ flat_map-push node_line (take at all) node in
    c.in_ok-push_node_line.ensures ∙ (λ i. c.loop-v.invariant i ++ node_line (c.bytes.ensures i, c.number.result)) ∙ append_assoc start (flat_map node_line (take at all)) (node_line node) ∙ ap (λ l. start ++ l) (sym more)

pub returns : goal.returns
returns c =
    let names = c.args.graph.now.names in
    let numbers = c.args.graph.now.numbers in
    let long : length (zip names numbers) ≡ length names = sym (length-map (zip names numbers) (λ node. node.0)) ∙ ap length (firsts-zip names numbers c.known.ensures.makes.numbered.long) in
    let past : length (zip names numbers) ≤ c.loop-v.v = omega (arith, long, c.loop-v-test.false, c.node_count-v-end.ensures) in
    c.loop-v.invariant ∙ ap (λ l. c.args.text.now.items ++ flat_map node_line l) (take_all c.loop-v.v (zip names numbers) past)
