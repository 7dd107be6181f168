-- Lines whose ends aren't nodes.
use Rattle.std.specs.Prelude.{ℕ, nat_lt, Bool, not, ◌&&◌}
use Rattle.graph_core.specs.declared.graph.Line.{Line}

-- whether an end isn't among n nodes
abbrev pub unfit : ℕ → Line → Bool
unfit n l = not (nat_lt l.tail n && nat_lt l.head n)
