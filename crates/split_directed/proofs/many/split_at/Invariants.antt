use Rattle.std.proofs.Common.{◌≡◌, ◌+◌, ◌-◌, length, sum}
use Rattle.graph_core.specs.Side.{size}
use Rattle.cut_fn.specs.Stars.{star_of}
use Rattle.split_directed.specs.State.{left_of, IsState}
use Rattle.split_directed.specs.Turn.{IsTurn}
use Rattle.split_directed.proofs.many.split_at.Given as goal

abbrev pub invariant-turns : goal.invariant-turns
invariant-turns l = record {
  star : l.state.star.now ≡ l.initial.state.star.now;
  state : IsState (length l.initial.state.star.now.graph.names) (left_of l.initial.state.star.now l.state.rows) l.state.enter l.state.leave;
  turn : IsTurn (length l.initial.state.star.now.graph.names) l.k l.t (star_of l.initial.state.star.now) l.state.rows l.witness.way l.witness.side;
  block : length l.block ≡ length l.initial.state.star.now.graph.names;
}

abbrev pub decreases-turns : goal.decreases-turns
decreases-turns l = sum (left_of l.initial.state.star.now l.state.rows).out + (length l.initial.state.star.now.graph.names - size l.witness.side)
