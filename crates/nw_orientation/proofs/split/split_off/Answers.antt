use Rattle.std.proofs.Common.{◌≡◌, ◌++◌, true, length, ap, ◌∙◌, arith}
use Rattle.std.proofs.lemmas.List.{length-map}
use Rattle.graph_core.specs.Graph.{lines_of}
use Rattle.graph_core.specs.Pairs.{apart}
use Rattle.nw_orientation.specs.Chosen.{chosen}
use Rattle.nw_orientation.specs.Moved.{moved_line, apart_marks}
use Rattle.nw_orientation.proofs.StarLaws.{can_be_split, is_split_off, fits_apart, room_after}
use Rattle.nw_orientation.proofs.split.split_off.Goals as goal

pub split_all-requires : goal.split_all-requires
split_all-requires c =
    let node = c.node_of_degree-node.ensures in
    can_be_split c.args.k c.node_of_degree-node.result c.args.q c.requires.k.0 (omega (arith, node.node)) c.args.lines.now c.requires.ends c.requires.few c.requires.lean (node.degree ∙ c.from.ensures) c.in_ok-star.star c.in_ok-star.ensures

pub plus-requires-clause-fit : goal.plus-requires-clause-fit
plus-requires-clause-fit c =
    rw (c.in_ok-made.ensures ∙ ap apart c.as_slice.ensures) (fits_apart (length c.in_ok-star.star.graph.names) c.in_ok-pairs.pairs c.in_ok-pairs.ensures.nodes)

pub plus-requires-clause-room : goal.plus-requires-clause-room
plus-requires-clause-room c =
    let node = c.node_of_degree-node.ensures in
    rw (c.in_ok-made.ensures ∙ ap apart c.as_slice.ensures)
    (room_after c.args.k c.node_of_degree-node.result c.args.q c.requires.k.0 (omega (arith, node.node)) c.args.lines.now c.requires.ends c.requires.few c.requires.lean (node.degree ∙ c.from.ensures) c.in_ok-star.star c.in_ok-star.ensures c.in_ok-pairs.pairs c.in_ok-pairs.ensures)

pub returns : goal.returns
returns c =
    let node = c.node_of_degree-node.ensures in
    let z = c.node_of_degree-node.result in
    let q = c.args.q in
    let ls = c.args.lines.now in
    let is = c.in_ok-star.ensures in
    let pairs = c.in_ok-pairs.pairs in
    let made : c.in_ok-made.made ≡ apart pairs = c.in_ok-made.ensures ∙ ap apart c.as_slice.ensures in
    let graph = c.in_ok-graph.ensures in
    is_split_off c.args.k z q c.requires.k.0 (omega (arith, node.node)) ls c.requires.ends c.requires.few c.requires.lean (node.degree ∙ c.from.ensures) c.in_ok-star.star is pairs c.in_ok-pairs.ensures
    c.in_ok-graph.graph c.line_count-old.result (ap (λ g. g.kind) graph ∙ is.kind) (ap (λ g. length g.names) graph ∙ is.nodes) (ap (λ g. g.lines) graph ∙ (λ i. is.lines i ++ lines_of (made i)))
    (c.line_count-old.ensures.count ∙ ap length is.lines ∙ length-map (chosen true ls (apart_marks z ls)) (moved_line z q))
