use Rattle.std.proofs.Common.{◌<◌, length, refl, ◌∙◌, arith, true}
use Rattle.std.proofs.Math.ListN.{length-set}
use Rattle.std.proofs.lemmas.List.Elements.{All-get_or}
use Rattle.graph_core.specs.Side.{has}
use Rattle.graph_core.specs.Pairs.{no_pair, pair_at}
use Rattle.cut_trees.specs.Order.{outward}
use Rattle.cut_trees.proofs.Searched.{searched_first, searched_on, searched_more, All-brought, in-outward}
use Rattle.cut_trees.proofs.order.search_from.Goals as goal

pub loop-i-init : goal.loop-i-init
loop-i-init c = record {
  long = c.hold_only.ensures.long;
  same = refl;
  nodes = c.requires.nodes;
  searched = λ g fit long tree. searched_first fit tree.tree c.args.u c.hold_only.new.self (rw (← long) c.requires.nodes) tree.cuts (c.hold_only.ensures.long ∙ long) c.hold_only.ensures.only;
}

pub returns-in_default-clause-searched : goal.returns-in_default-clause-searched
returns-in_default-clause-searched c = λ g fit long tree. absurd (searched_on fit tree.tree (c.loop-i.invariant.searched g fit long tree) (omega arith) c.in_default.ensures.none)

pub loop-i-preserved : goal.loop-i-preserved
loop-i-preserved c =
    let n = length c.args.reached.now in
    let ps = c.loop-i.pairs in
    let i = c.loop-i.i in
    let k = c.in-Some.k in
    let p = pair_at ps k in
    let found = c.in-Some.ensures.found in
    let li : i < length ps = omega arith in
    let both = All-get_or (λ q. (q.0 < n) × (q.1 < n)) ps k no_pair found.1 c.loop-i.invariant.nodes in
    let out = outward (has c.loop-i.reached p.0) p in
    record {
      long = rw c.take_next.ensures.side (length-set c.loop-i.reached out.1 true ∙ c.loop-i.invariant.long);
      same = c.take_next.auto.pairs ∙ c.loop-i.invariant.same;
      nodes = rw c.take_next.ensures.pairs (All-brought ps i k out li found.1 (λ q. (q.0 < n) × (q.1 < n)) c.loop-i.invariant.nodes (in-outward n (has c.loop-i.reached p.0) p both));
      searched = λ g fit long tree. rw (c.take_next.ensures.pairs, c.take_next.ensures.side) (searched_more fit tree.tree (c.loop-i.invariant.searched g fit long tree) k li found.1 found.0 found.2);
    }
