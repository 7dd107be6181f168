use Rattle.std.proofs.Common.{length, sym, ◌∙◌, arith}
use Rattle.edmonds_branchings.specs.Rooted.{ArePacked}
use Rattle.edmonds_branchings.proofs.OneRoot.{root_alone, can_be_packed, root_small, all_spanning}
use Rattle.edmonds_branchings.proofs.arborescences.pack_arborescences.Goals as goal

pub pack_rooted-requires-clause-ready : goal.pack_rooted-requires-clause-ready
pack_rooted-requires-clause-ready c =
    rw (c.in_ok-roots.ensures, c.node_count.ensures) (can_be_packed c.requires.suits.root c.in_ok-dual.ensures (sym c.entering-k.ensures.count))

pub pack_rooted-requires-clause-small : goal.pack_rooted-requires-clause-small
pack_rooted-requires-clause-small c = rw (c.in_ok-roots.ensures, c.node_count.ensures) (root_small (length c.args.graph.now.names) c.args.root c.entering-k.result (let most = c.entering-k.ensures.within in omega arith))

pub returns-clause-certified : goal.returns-clause-certified
returns-clause-certified c =
    let g = c.args.graph.now in
    let n = length g.names in
    let k = c.entering-k.result in
    let are : ArePacked n k g.lines (root_alone n c.args.root k) c.in_ok-object.object = rw (c.in_ok-roots.ensures, c.node_count.ensures) at c.in_ok-object.ensures in
    let dual = c.in_ok-dual.ensures in
    record {
      feasible = record { each = all_spanning c.requires.suits.root c.known.ensures.makes.ends are; disjoint = are.disjoint };
      dual_feasible = record { nonempty = dual.nonempty; misses = dual.misses };
      equal = are.many ∙ c.entering-k.ensures.count;
    }
