use Rattle.std.proofs.Common.{arith}
use Rattle.std.proofs.lemmas.List.FromFn.{map-range_with_len_more}
use Rattle.connect_gen.specs.Generated.{node_name}
use Rattle.connect_gen.proofs.generated.node_names.Goals as goal

pub loop-v-preserved : goal.loop-v-preserved
loop-v-preserved c =
    let more = map-range_with_len_more node_name 0 c.loop-v.v c.loop-v.v (omega arith) in
    cc (more, c.in_ok-push.ensures.items, c.in_ok-node_name.ensures, c.loop-v.invariant)
