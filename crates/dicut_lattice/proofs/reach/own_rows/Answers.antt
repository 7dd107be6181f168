use Rattle.std.proofs.Common.{◌≡◌, ◌∙◌, ◌+◌, sym, ap, subst, length}
use Rattle.std.proofs.lemmas.List.{length-replicate}
use Rattle.std.specs.Prelude.{false}
use Rattle.dicut_lattice.specs.Reach.{AreOwn}
use Rattle.dicut_lattice.proofs.Rows.{own-push}
use Rattle.dicut_lattice.proofs.reach.own_rows.Goals as goal

pub loop-v-preserved : goal.loop-v-preserved
loop-v-preserved c =
    let n = c.node_count-n.result in
    let long : length c.hold_only.new.self ≡ n = c.hold_only.ensures.long ∙ ap length c.in_ok-row.ensures ∙ length-replicate n false in
    subst (AreOwn n (c.loop-v.v + 1)) (sym c.in_ok-push.ensures.ok) (own-push c.loop-v.rows c.hold_only.new.self c.loop-v.invariant long c.hold_only.ensures.only)
