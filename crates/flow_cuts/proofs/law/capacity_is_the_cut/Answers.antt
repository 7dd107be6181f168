use Rattle.graph_core.specs.declared.graph.Kind.TheVariants.{Undirected, Directed}
use Rattle.flow_cuts.proofs.ArcLaws.{capacity-arcs_of}
use Rattle.flow_cuts.proofs.law.capacity_is_the_cut.Goals as goal

pub returns-clause-edges : goal.returns-clause-edges
returns-clause-edges c = λ g X. capacity-arcs_of Undirected X g.lines

pub returns-clause-arcs : goal.returns-clause-arcs
returns-clause-arcs c = λ g X. capacity-arcs_of Directed X g.lines
