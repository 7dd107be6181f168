-- Weak duality of forests.
use Rattle.std.specs.Prelude.{ℕ, ◌≡◌, ◌-◌, ◌*◌, ◌≤◌, List, length, All, sum_by}
use Rattle.std.proofs.Common.{arith}
use Rattle.std.proofs.lemmas.List.Sums.{sum_by-le}
use Rattle.std.proofs.lemmas.List.Elements.{All-weaker}
use Rattle.graph_core.specs.Graph.{GraphValue}
use Rattle.graph_core.specs.Side.{size}
use Rattle.graph_core.specs.Lines.{within, induced}
use Rattle.graph_core.specs.Picked.{picked}
use Rattle.graph_core.specs.Trees.{IsForest}
use Rattle.graph_core.proofs.Counting.{rows-each}
use Rattle.problem_defs.specs.Ceil.{div_ceil-le}
use Rattle.problem_defs.specs.declared.cert.ForestDual.{ForestDual}
use Rattle.problem_defs.specs.declared.cert.ForestDual.TheVariants.{Nothing, Induced}
use Rattle.problem_defs.specs.Forests.{IsFeasible, IsDual, bound}

pub law : (g : GraphValue) (rows : List (List ℕ)) (dual : ForestDual) → IsFeasible g rows → IsDual g dual → bound g dual ≤ length rows
law g rows Nothing f d = omega arith
law g rows (Induced X) f (nonempty, big) =
    let thin : All (λ row. induced X (picked g.lines row) ≤ size X - 1) rows =
    All-weaker (IsForest (length g.names) g.lines) (λ row. induced X (picked g.lines row) ≤ size X - 1) (λ row t. let less = t.acyclic X nonempty in omega arith) rows f.each in
    let total : sum_by (λ row. induced X (picked g.lines row)) rows ≤ length rows * (size X - 1) = sum_by-le (λ row. induced X (picked g.lines row)) (size X - 1) rows thin in
    let all : sum_by (λ row. induced X (picked g.lines row)) rows ≡ induced X g.lines = rows-each (within X) g.lines rows f.once in
    div_ceil-le (induced X g.lines) (size X - 1) (length rows) (omega arith) (omega (arith, total, all))
