use Rattle.std.proofs.Common.{◌<◌, ◌^◌, lit<, ◌∙◌, subst, ap, length, sum, arith}
use Rattle.std.specs.Prelude.{MatchOption}
use Rattle.std.proofs.lemmas.List.{length-map}
use Rattle.problem_defs.specs.Dijoin.{Forbids}
use Rattle.dicut_lattice.specs.Uncovered.{NoneForbids}
use Rattle.lucchesi_younger.specs.Kept.{IsSolved}
use Rattle.lucchesi_younger.proofs.ArcCosts.{costs-few, solved-certified}
use Rattle.lucchesi_younger.proofs.solver.dijoin.Goals as goal

small : 6553600 < 2 ^ 63
small = lit< tt

pub returns-in-Some : goal.returns-in-Some
returns-in-Some c = let g = c.args.graph.now in subst (λ o. MatchOption o (NoneForbids g) (Forbids g)) c.in-Some.is c.in_ok-side.ensures

pub first_dijoin-requires : goal.first_dijoin-requires
first_dijoin-requires c = let g = c.args.graph.now in subst (λ o. MatchOption o (NoneForbids g) (Forbids g)) c.in_default.is c.in_ok-side.ensures

pub solve-requires-clause-long : goal.solve-requires-clause-long
solve-requires-clause-long c = ap length c.in_ok-costs.ensures ∙ length-map c.args.graph.now.lines _

pub solve-requires-clause-room : goal.solve-requires-clause-room
solve-requires-clause-room c = let same = ap sum c.in_ok-costs.ensures in omega (arith, costs-few c.args.graph.now c.known.ensures, small)

pub returns : goal.returns
returns c =
    let g = c.args.graph.now in
    let found = c.in_ok-solved.solved in
    solved-certified g found.join found.sides (subst (λ costs. IsSolved g costs found.join found.sides) c.in_ok-costs.ensures c.in_ok-solved.ensures)
