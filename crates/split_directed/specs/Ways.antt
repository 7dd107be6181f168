-- By the way that arcs are counted: what changes where two nodes are split off, and how tight sides are joined. No public clause cites it.
use Rattle.std.specs.Prelude.{ℕ, ◌==◌, ◌&&◌, Bool, true, false, List, [], ◌∷◌, cond}
use Rattle.graph_core.specs.Side.{has, join}
use Rattle.flow_cuts.specs.declared.network.Cap.{Cap}
use Rattle.problem_defs.specs.declared.cert.Way.{Way}
use Rattle.problem_defs.specs.declared.cert.Way.TheVariants.{Entering, Leaving}

abbrev pub same : Way → Way → Bool
same Entering Entering = true
same Entering Leaving = false
same Leaving Entering = false
same Leaving Leaving = true

-- of u and t the node whose count falls where they are split off
abbrev pub end_of : Way → ℕ → ℕ → ℕ
end_of Entering u t = t
end_of Leaving u t = u

-- an arc from u to t, turned round where the arcs that enter a side are to leave it
abbrev pub arc_of : Way → ℕ → ℕ → ℕ → Cap
arc_of Entering u t c = record { tail = t; head = u; cap = c }
arc_of Leaving u t c = record { tail = u; head = t; cap = c }

-- none where u and t are one node
abbrev pub arcs_between : Way → ℕ → ℕ → ℕ → List Cap
arcs_between w u t c = cond (u == t) [] (arc_of w u t c ∷ [])

-- a tight side M with t that takes in another X: their union where both are of one way, and else X alone
abbrev pub taken_in : Way → List Bool → Way → List Bool → ℕ → List Bool
taken_in w M w' X t = cond (same w w' && has M t) (join M X) X
