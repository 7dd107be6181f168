-- Closed sides, by what enters them. No public clause cites it.
use Rattle.std.specs.Prelude.{ℕ, ◌≡◌, ◌≤◌, true, false, Bool, List, count_by}
use Rattle.graph_core.specs.Graph.{GraphValue}
use Rattle.graph_core.specs.Lines.{enters, entering}
use Rattle.graph_core.specs.Picked.{picked}
use Rattle.graph_core.specs.declared.graph.Line.{Line}
use Rattle.problem_defs.specs.Dijoin.{IsClosed}

-- one of these arcs enters each closed side
abbrev pub Covers : GraphValue → List ℕ → Type 0
Covers g join = (U : List Bool) → IsClosed g U → 1 ≤ entering U (picked g.lines join)

-- an arc that is fixed, or enters at most as many members as it costs
abbrev pub IsApart : List (List Bool) → Line → Type 0
IsApart P l = l.fixed ≡ false → count_by (λ U. enters U l) P ≤ l.cost

-- an arc that is fixed, or doesn't enter the side
abbrev pub IsLetBy : List Bool → Line → Type 0
IsLetBy U l = enters U l ≡ true → l.fixed ≡ true
