use Rattle.std.proofs.Common.{◌∷◌, suc, get_or, drop, subst}
use Rattle.std.proofs.lemmas.Bool.{false≢true}
use Rattle.std.proofs.Math.Seq.{drop-cons}
use Rattle.graph_core.specs.Walks.{IsWay}
use Rattle.certificate_checker.proofs.flow.is_walk.Goals as goal

pub returns-in_default : goal.returns-in_default
returns-in_default c = (
  λ never. absurd (false≢true never),
  λ walk.
      let split = drop-cons c.args.row.now c.loop-j.j-index 0 c.loop-j-test.true in
      let way : IsWay c.args.graph.now.kind c.args.graph.now.lines c.loop-j.at c.args.ask.to (get_or c.args.row.now c.loop-j.j-index 0 ∷ drop (suc c.loop-j.j-index) c.args.row.now) = subst (IsWay c.args.graph.now.kind c.args.graph.now.lines c.loop-j.at c.args.ask.to) split (c.loop-j.invariant.0 walk.way) in
      absurd (c.in_default.ensures way.0 way.1),
)
