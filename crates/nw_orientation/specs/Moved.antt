-- Node z taken out of the nodes up to q: node q gets its number. No public clause cites it.
use Rattle.std.specs.Prelude.{ℕ, ◌==◌, Bool, true, false, not, ◌||◌, cond, List, map}
use Rattle.graph_core.specs.declared.graph.Line.{Line}
use Rattle.nw_orientation.specs.Chosen.{chosen}

abbrev pub moved : ℕ → ℕ → ℕ → ℕ
moved z q v = cond (v == q) z v

abbrev pub moved_line : ℕ → ℕ → Line → Line
moved_line z q l = record { tail = moved z q l.tail; head = moved z q l.head; fixed = l.fixed; cost = 1 }

-- the line has z as an end; its other end
abbrev pub touches : ℕ → Line → Bool
touches z l = (l.tail == z) || (l.head == z)

abbrev pub other_end : ℕ → Line → ℕ
other_end z l = cond (l.tail == z) l.head l.tail

-- which of the lines don't have z as an end
abbrev pub apart_marks : ℕ → List Line → List Bool
apart_marks z ls = map (λ l. not (touches z l)) ls

-- those lines, among the nodes that are left; and the ends of the others there
abbrev pub others : ℕ → ℕ → List Line → List Line
others z q ls = map (moved_line z q) (chosen true ls (apart_marks z ls))

abbrev pub spokes : ℕ → List Line → List Line
spokes z ls = chosen false ls (apart_marks z ls)

abbrev pub spoke_ends : ℕ → ℕ → List Line → List ℕ
spoke_ends z q ls = map (λ l. moved z q (other_end z l)) (spokes z ls)
