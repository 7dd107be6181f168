-- Asks that no object answers. This can hold only where the definition names a side that forbids every object.
use Rattle.std.specs.Prelude.{ℕ, Bool, List}
use Rattle.graph_core.specs.Graph.{GraphValue}
use Rattle.problem_defs.specs.Dijoin as dijoin
use Rattle.problem_defs.specs.Orient as orient
use Rattle.problem_defs.specs.declared.ask.Ask.{Ask}
use Rattle.problem_defs.specs.declared.ask.Ask.TheVariants.{Orient, Dijoin}
use Rattle.problem_defs.specs.declared.cert.Body.{Body}
use Rattle.problem_defs.specs.declared.cert.Body.TheVariants.{Never}

-- the graph has no feasible object for the ask
abbrev pub IsImpossible : GraphValue → Ask → Type 0
IsImpossible g (Orient k) = (heads : List Bool) → orient.IsFeasible k g heads → ⊥
IsImpossible g Dijoin = (join : List ℕ) → dijoin.IsFeasible g join → ⊥
IsImpossible g ask = ⊥

-- the body is a side that forbids every object
abbrev pub IsNever : Body → Type 0
IsNever (Never side) = Unit {0}
IsNever body = ⊥
