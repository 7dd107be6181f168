use Rattle.std.proofs.Common.{◌≡◌, ◌-◌, length}
use Rattle.graph_core.specs.Side.{size}
use Rattle.cut_fn.specs.Stars.{star_of}
use Rattle.split_directed.specs.Turn.{IsWitness}
use Rattle.split_directed.proofs.partners.partner.Given as goal

abbrev pub invariant-turns : goal.invariant-turns
invariant-turns l = record {
  witness : IsWitness (length l.star.graph.names) l.k (star_of l.star) l.t l.witness.way l.witness.side;
  block : length l.block ≡ length l.star.graph.names;
}

abbrev pub decreases-turns : goal.decreases-turns
decreases-turns l = length l.star.graph.names - size l.witness.side
