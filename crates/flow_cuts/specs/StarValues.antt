-- The values of the sides of a star, whose new node is in none of them.
use Rattle.std.specs.Prelude.{ℕ, ◌+◌, Bool, List, slice_index}
use Rattle.graph_core.specs.Side.{sum_over}
use Rattle.cut_fn.specs.Stars.{StarValue}
use Rattle.problem_defs.specs.Ways.{count_for}
use Rattle.problem_defs.specs.declared.cert.Way.{Way}
use Rattle.problem_defs.specs.declared.cert.Way.TheVariants.{Entering, Leaving}

-- the value of a side where h counts at it without the new node: with the counts of its nodes
abbrev pub with_counts : (List Bool → ℕ) → List ℕ → List Bool → ℕ
with_counts h counts X = h X + sum_over X (slice_index counts)

-- of a star of arcs the counts that a way counts at a side, and the values of sides
abbrev pub counts_for : Way → StarValue → List ℕ
counts_for Entering s = s.into
counts_for Leaving s = s.out

abbrev pub value_for : Way → StarValue → List Bool → ℕ
value_for way s = with_counts (count_for way s.lines) (counts_for way s)
