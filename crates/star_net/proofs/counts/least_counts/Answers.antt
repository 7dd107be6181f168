use Rattle.std.proofs.Common.{◌≡◌, ◌-◌, arith, replicate}
use Rattle.std.proofs.lemmas.List.{get_or-replicate}
use Rattle.star_net.specs.Lowered.{capacity_over}
use Rattle.star_net.proofs.Lowering.{lowered_first}
use Rattle.star_net.proofs.counts.least_counts.Goals as goal

pub loop-v-init : goal.loop-v-init
loop-v-init c =
    let n = c.args.n in
    let full : c.in_ok-vec.field-0.items ≡ replicate n c.args.k = c.in_ok-vec.ensures.items_if_clones_equal (λ y h. h) in
    rw (full, c.new.ensures) (record { last = λ some. get_or-replicate n (n - 1) c.args.k 0 (omega arith); lowered = lowered_first n c.args.k (capacity_over c.args.arcs.now) })
