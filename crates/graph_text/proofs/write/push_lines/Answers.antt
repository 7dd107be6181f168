use Rattle.std.proofs.Common.{◌≡◌, ◌+◌, [], ◌∷◌, ◌++◌, map, take, sym, ap, ◌∙◌, append_assoc}
use Rattle.std.specs.List.{flat_map}
use Rattle.std.proofs.lemmas.List.{map-append}
use Rattle.std.proofs.lemmas.Option.{get_or_from_slice_get}
use Rattle.graph_text.specs.Before.{Ends}
use Rattle.graph_text.specs.Text.{ends_in}
use Rattle.graph_text.specs.PlainText.{ends_line}
use Rattle.graph_text.proofs.ListLemmas.{take_next, flat_map-push}
use Rattle.graph_text.proofs.write.push_lines.Goals as goal

pub loop-j-preserved : goal.loop-j-preserved
loop-j-preserved c =
    let kind = c.args.graph.now.kind in
    let names = c.args.graph.now.names in
    let all = c.args.graph.now.lines in
    let at = c.loop-j.j in
    let line = c.line-line.result in
    let start = c.args.text.now.items in
    let before = map (ends_in names) (take at all) in
    let tail = get_or_from_slice_get names line.tail c.name.result.now [] c.name.ensures ∙ sym c.bytes-tail.ensures in
    let head = get_or_from_slice_get names line.head c.name-in-loop-j.result.now [] c.name-in-loop-j.ensures ∙ sym c.bytes-head.ensures in
    let written : Ends = record { tail = c.bytes-tail.result.now; head = c.bytes-head.result.now; fixed = line.fixed; cost = line.cost } in
    let ends : ends_in names line ≡ written = λ i. record { tail = tail i; head = head i; fixed = line.fixed; cost = line.cost } in
    let lines : map (ends_in names) (take (at + 1) all) ≡ before ++ written ∷ [] = ap (map (ends_in names)) (take_next all at line c.line-line.ensures) ∙ map-append (ends_in names) (take at all) (line ∷ []) ∙ ap (λ e. before ++ e ∷ []) ends in
    let more : flat_map (ends_line kind) (map (ends_in names) (take (at + 1) all)) ≡ flat_map (ends_line kind) before ++ ends_line kind written = ap (flat_map (ends_line kind)) lines ∙ flat_map-push (ends_line kind) before written in
    c.in_ok-push_ends_line.ensures ∙ (λ i. c.loop-j.invariant i ++ ends_line (c.kind.ensures i) written) ∙ append_assoc start (flat_map (ends_line kind) before) (ends_line kind written) ∙ ap (λ l. start ++ l) (sym more)
