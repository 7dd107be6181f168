-- When disjoint forests cover all lines.
use Rattle.std.proofs.Common.{ℕ, zero, suc, ◌≡◌, ◌<◌, ◌≤◌, Bool, true, List, [], ◌∷◌, length, count_by, sym, ◌∙◌, arith}
use Rattle.std.specs.Prelude.{All, slice_get, sum_by}
use Rattle.std.specs.List.{concat}
use Rattle.std.proofs.lemmas.List.Elements.{All-weaker}
use Rattle.graph_core.specs.Graph.{GraphValue}
use Rattle.graph_core.specs.Picked.{picked, occurrences}
use Rattle.graph_core.specs.Trees.{IsForest}
use Rattle.graph_core.specs.declared.graph.Line.{Line}
use Rattle.graph_core.proofs.Counting.{weight, weighed, passes, sum_by-agree, sum_by-same, sum_by-concat, count_by-picked, count_by-picks, length-all_picked}
use Rattle.graphic_matroid.specs.Forests.{AreMostForests}
use Rattle.problem_defs.specs.Forests.{IsFeasible}

abbrev any_line : Line → Bool
any_line l = true

weighed-least : (ls : List Line) (times : ℕ → ℕ) → ((j : ℕ) → times j ≤ 1) → weighed any_line ls times ≤ length ls
weighed-least [] times h = omega arith
weighed-least (l ∷ ls) times h = omega (arith, h 0, weighed-least ls (λ j. times (suc j)) (λ j. h (suc j)))

-- numbers that stand once at most, as many as there are lines, stand once each
weighed-full : (ls : List Line) (times : ℕ → ℕ) → ((j : ℕ) → times j ≤ 1) → length ls ≤ weighed any_line ls times → (j : ℕ) → j < length ls → times j ≡ 1
weighed-full [] times h full j l = absurd (omega arith)
weighed-full (x ∷ ls) times h full zero l = omega (arith, h 0, weighed-least ls (λ i. times (suc i)) (λ i. h (suc i)))
weighed-full (x ∷ ls) times h full (suc j) l = weighed-full ls (λ i. times (suc i)) (λ i. h (suc i)) (omega (arith, h 0)) j (omega arith)

-- the lines of forests, counted by number
rows-weighed : (n : ℕ) (ls : List Line) (rows : List (List ℕ)) → All (IsForest n ls) rows → sum_by length rows ≡ weighed any_line ls (λ j. occurrences j (concat rows))
rows-weighed n ls rows forests =
    let f : ℕ → ℕ = λ j. weight (passes any_line (slice_get ls j)) in
    let each : All (λ row. length row ≡ count_by any_line (picked ls row)) rows =
    All-weaker (IsForest n ls) (λ row. length row ≡ count_by any_line (picked ls row))
    (λ row t. omega (arith, length-all_picked ls row t.picks.in_range, sum_by-same 1 (picked ls row))) rows forests in
    sum_by-agree length (λ row. count_by any_line (picked ls row)) rows each
    ∙ (λ t. sum_by (λ row. count_by-picked any_line ls row t) rows) ∙ sym (sum_by-concat f rows) ∙ count_by-picks any_line ls (concat rows)

pub covering : (g : GraphValue) (k : ℕ) (rows : List (List ℕ)) (P : List (List Bool)) → AreMostForests (length g.names) g.lines k rows P → sum_by length rows ≡ length g.lines → IsFeasible g rows
covering g k rows P m all = record {
  each = m.forests;
  once = weighed-full g.lines (λ j. occurrences j (concat rows)) m.disjoint (omega (arith, rows-weighed (length g.names) g.lines rows m.forests));
}

-- disjoint forests have no more lines than there are
pub rows-within : (g : GraphValue) (k : ℕ) (rows : List (List ℕ)) (P : List (List Bool)) → AreMostForests (length g.names) g.lines k rows P → sum_by length rows ≤ length g.lines
rows-within g k rows P m = omega (arith, rows-weighed (length g.names) g.lines rows m.forests, weighed-least g.lines (λ j. occurrences j (concat rows)) m.disjoint)
