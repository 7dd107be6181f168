use Rattle.std.proofs.Common.{◌≡◌, ◌+◌, ◌%◌, slice_set, sum, sym, ap, subst, arith}
use Rattle.std.proofs.lemmas.List.Sums.{get_or-le-sum_by}
use Rattle.graph_core.proofs.ItemLaws.{read_some}
use Rattle.augment_edges.specs.Even.{IsMadeEven}
use Rattle.augment_edges.proofs.EvenLaws.{made_even-raised}
use Rattle.augment_edges.proofs.even.make_even.Goals as goal

pub overflow_add-item_mut : goal.overflow_add-item_mut
overflow_add-item_mut c =
    let counts = c.args.counts.now in
    let v = c.counted-v.result in
    let at = read_some counts v c.item_mut.result.now 0 c.item_mut.ensures.value in
    omega (arith, at, get_or-le-sum_by (λ x. x) counts v 0 c.counted-v.ensures.below, c.requires)

pub returns-then-total_count-eq1 : goal.returns-then-total_count-eq1
returns-then-total_count-eq1 c =
    let counts = c.args.counts.now in
    let v = c.counted-v.result in
    let at = read_some counts v c.item_mut.result.now 0 c.item_mut.ensures.value in
    let odd : sum counts % 2 ≡ 1 = omega (arith, c.total_count.ensures.total, ap sum c.as_slice.ensures, c.if-total_count-eq1.true) in
    subst (λ more. IsMadeEven counts (slice_set counts v (more + 1))) (sym at) (made_even-raised counts v c.counted-v.ensures.below c.counted-v.ensures.some odd)
