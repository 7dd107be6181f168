use Rattle.std.proofs.lemmas.Bool.{both_ways}
use Rattle.matroid_union.specs.Parts.{own_of, part}
use Rattle.matroid_union.proofs.KeptSets.{takes_plus}
use Rattle.matroid_union.proofs.ends.can_join.Goals as goal

pub takes-requires-clause-kept : goal.takes-requires-clause-kept
takes-requires-clause-kept g c = (c.requires.whole.each c.args.number c.item.result.now c.item.ensures).kept

pub returns-then-not-is_part-clause-joins : goal.returns-then-not-is_part-clause-joins
returns-then-not-is_part-clause-joins g c =
    let answer = takes_plus (g.M.Matroid.count c.args.matroid.now) (g.M.Matroid.free c.args.matroid.now) (g.met.M.Matroid.laws c.args.matroid.now) (g.M.Matroid.keeps c.args.matroid.now) g.M.Matroid.members (part (own_of c.args.owner.now) c.args.number) c.args.element c.item.result.now c.takes.result c.requires.below (c.requires.whole.each c.args.number c.item.result.now c.item.ensures) c.takes.ensures in
    answer.0

pub returns-then-not-is_part-clause-shut : goal.returns-then-not-is_part-clause-shut
returns-then-not-is_part-clause-shut g c = λ left out w.
    let answer = takes_plus (g.M.Matroid.count c.args.matroid.now) (g.M.Matroid.free c.args.matroid.now) (g.met.M.Matroid.laws c.args.matroid.now) (g.M.Matroid.keeps c.args.matroid.now) g.M.Matroid.members (part (own_of c.args.owner.now) c.args.number) c.args.element c.item.result.now c.takes.result c.requires.below (c.requires.whole.each c.args.number c.item.result.now c.item.ensures) c.takes.ensures in
    both_ways c.takes.result left (answer.1 w)
