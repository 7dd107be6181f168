use Rattle.std.proofs.Common.{◌≡◌, ◌∙◌, sym, subst, true, false}
use Rattle.graph_core.specs.Side.{has}
use Rattle.dicut_lattice.specs.Spread.{StepsBack}
use Rattle.dicut_lattice.proofs.Spreading.{steps-back}
use Rattle.dicut_lattice.proofs.kernel.go_back.Goals as goal

pub returns : goal.returns
returns c =
    let g = c.args.reach.now in
    let X = c.args.into.now in
    let l = c.args.line in
    let in_head : has X l.head ≡ true = sym c.has.ensures ∙ c.if-not-has.false in
    let out : has X l.tail ≡ false = sym c.has-else-not-has.ensures ∙ c.if-has.false in
    subst (StepsBack g l X true) (sym c.join.ensures.union) (steps-back g l X c.side.result.now c.requires.long c.side.ensures in_head out)
