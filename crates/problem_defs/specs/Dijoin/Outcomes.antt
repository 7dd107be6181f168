-- What answers whether there is a dijoin without fixed arcs.
use Rattle.graph_core.specs.Graph.{GraphValue}
use Rattle.problem_defs.specs.Certified.{IsCertified}
use Rattle.problem_defs.specs.Dijoin.{problem, Forbids}
use Rattle.problem_defs.specs.declared.cert.Body.{Body}
use Rattle.problem_defs.specs.declared.cert.Body.TheVariants as bodies
use Rattle.problem_defs.specs.declared.dijoin.DijoinOutcome.{DijoinOutcome}
use Rattle.problem_defs.specs.declared.dijoin.DijoinOutcome.TheVariants.{Best, Never}

-- a certified dijoin, or a side that forbids each
abbrev pub IsOutcome : GraphValue → DijoinOutcome → Type 0
IsOutcome g (Best found) = IsCertified problem g found.ask found.object found.dual
IsOutcome g (Never side) = Forbids g side

-- what a certificate says of it
abbrev pub body_of : GraphValue → DijoinOutcome → Body
body_of g (Best found) = bodies.Join (problem.value_of found.ask g found.object) found.object found.dual
body_of g (Never side) = bodies.Never side
