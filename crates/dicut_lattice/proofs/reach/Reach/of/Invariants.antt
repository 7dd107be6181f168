use Rattle.dicut_lattice.specs.Reach.{AreRows, LeadOnBelow}
use Rattle.dicut_lattice.proofs.reach.Reach.of.Given as goal

abbrev pub invariant-loop-k : goal.invariant-loop-k
invariant-loop-k l = record {
  rows : AreRows l.graph l.graph.lines l.rows;
  on : LeadOnBelow l.k l.rows;
}
