use Rattle.std.proofs.Common.{◌∙◌, length}
use Rattle.problem_defs.proofs.TreeLines.{nodes-tree}
use Rattle.cut_trees.proofs.LeastCut.{reached_all, none_less, least_side}
use Rattle.cut_trees.proofs.least.cut_between.Goals as goal

pub search_from-requires-clause-nodes : goal.search_from-requires-clause-nodes
search_from-requires-clause-nodes c = rw c.requires.long (nodes-tree (length c.args.graph.now.names) c.args.pairs.now c.requires.tree.tree.fit)

pub part_at-requires-clause-j : goal.part_at-requires-clause-j
part_at-requires-clause-j c =
    let s = c.search_from.ensures.searched c.args.graph.now c.known.ensures.makes.ends c.requires.long c.requires.tree in
    (c.least_on_way-j.ensures c.args.u c.requires.apart s.ordered (reached_all s c.args.v c.requires.v)).within

pub bounds-pairs-j : goal.bounds-pairs-j
bounds-pairs-j c =
    let s = c.search_from.ensures.searched c.args.graph.now c.known.ensures.makes.ends c.requires.long c.requires.tree in
    (c.least_on_way-j.ensures c.args.u c.requires.apart s.ordered (reached_all s c.args.v c.requires.v)).within

pub returns-clause-cut : goal.returns-clause-cut
returns-clause-cut c =
    let s = c.search_from.ensures.searched c.args.graph.now c.known.ensures.makes.ends c.requires.long c.requires.tree in
    let way = c.least_on_way-j.ensures c.args.u c.requires.apart s.ordered (reached_all s c.args.v c.requires.v) in
    least_side s way c.part_at.new.side (c.part_at.ensures.long ∙ c.search_from.ensures.long ∙ c.requires.long) (c.part_at.ensures.cut c.args.u s.ordered)

pub returns-clause-least : goal.returns-clause-least
returns-clause-least c =
    let s = c.search_from.ensures.searched c.args.graph.now c.known.ensures.makes.ends c.requires.long c.requires.tree in
    none_less s (c.least_on_way-j.ensures c.args.u c.requires.apart s.ordered (reached_all s c.args.v c.requires.v))
