use Rattle.std.proofs.Common.{◌<◌, length, ◌∙◌, arith}
use Rattle.std.proofs.Math.ListN.{length-set}
use Rattle.std.proofs.lemmas.List.Elements.{All-get_or}
use Rattle.graph_core.specs.Pairs.{no_pair, pair_at}
use Rattle.cut_trees.proofs.WayLaws.{cut_first, cut_more}
use Rattle.cut_trees.proofs.way.part_at.Goals as goal

pub loop-k-init : goal.loop-k-init
loop-k-init c = record {
  long = c.complement.ensures.long ∙ c.hold_only.ensures.long;
  cut = λ u ordered. rw c.complement.ensures.complement (cut_first c.hold_only.new.self c.requires.nodes ordered c.requires.j c.hold_only.ensures.long c.hold_only.ensures.only);
}

pub loop-k-preserved : goal.loop-k-preserved
loop-k-preserved c =
    let n = length c.args.side.now in
    let ps = c.args.pairs.now in
    let p = pair_at ps c.loop-k.k in
    let both = All-get_or (λ q. (q.0 < n) × (q.1 < n)) ps c.loop-k.k no_pair c.loop-k-test.true c.requires.nodes in
    record {
      long = rw c.put.ensures (length-set c.loop-k.side p.1 c.has.result ∙ c.loop-k.invariant.long);
      cut = λ u ordered. rw (c.put.ensures, c.has.ensures) (cut_more c.loop-k.side ordered (omega arith) c.loop-k-test.true (omega arith) (c.loop-k.invariant.cut u ordered));
    }
