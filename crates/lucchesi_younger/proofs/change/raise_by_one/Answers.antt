use Rattle.std.proofs.Common.{◌+◌, refl, sym, subst, ◌∙◌, arith}
use Rattle.std.specs.Prelude.{slice_set}
use Rattle.std.proofs.lemmas.Option.{get_or_from_slice_get}
use Rattle.std.proofs.lemmas.List.Sums.{get_or-le-sum_by}
use Rattle.lucchesi_younger.specs.Kept.{at, IsKept, IsLate}
use Rattle.lucchesi_younger.proofs.Costs.{dearer-kept, dearer-late}
use Rattle.lucchesi_younger.proofs.change.raise_by_one.Goals as goal

pub overflow_add-cost : goal.overflow_add-cost
overflow_add-cost c =
    let costs = c.args.work.now.costs in
    let is = get_or_from_slice_get costs c.args.number c.item-cost.result.now 0 c.item-cost.ensures in
    omega (arith, get_or-le-sum_by (λ n. n) costs c.args.number 0 (omega (arith, c.requires.kept.costs_long)), c.requires.room)

pub mend-requires-clause-kept : goal.mend-requires-clause-kept
mend-requires-clause-kept c =
    let w = c.args.work.now in
    let is = get_or_from_slice_get w.costs c.args.number c.item-cost.result.now 0 c.item-cost.ensures in
    subst (λ n. IsKept c.args.graph.now (record { join = w.join; costs = slice_set w.costs c.args.number (n + 1); potential = w.potential }) c.args.number) is
    (dearer-kept c.args.graph.now w c.requires.kept c.args.number c.requires.number (at w.costs c.args.number + 1) (omega arith))

pub mend-requires-clause-late : goal.mend-requires-clause-late
mend-requires-clause-late c =
    let w = c.args.work.now in
    let l = c.line-line.result in
    let is = get_or_from_slice_get w.costs c.args.number c.item-cost.result.now 0 c.item-cost.ensures in
    subst (λ n. IsLate c.args.graph.now (record { join = w.join; costs = slice_set w.costs c.args.number (n + 1); potential = w.potential }) c.args.number l.tail l.head) is
    (dearer-late c.args.graph.now w c.requires.kept c.args.number c.requires.number (at w.costs c.args.number + 1) (omega arith) refl l c.line-line.ensures c.requires.taken)

pub returns-clause-costs : goal.returns-clause-costs
returns-clause-costs c =
    let costs = c.args.work.now.costs in
    let is = get_or_from_slice_get costs c.args.number c.item-cost.result.now 0 c.item-cost.ensures in
    c.in_ok-other.ensures.costs ∙ (λ k. slice_set costs c.args.number (sym is k + 1))
