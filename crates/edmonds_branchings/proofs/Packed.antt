-- The branchings that are made, one by one.
use Rattle.std.specs.Prelude.{ℕ, ◌≡◌, ◌+◌, ◌-◌, ◌<◌, ◌≤◌, ◌==◌, List, [], ◌∷◌, ◌++◌, length, slice_index, All}
use Rattle.std.specs.List.{concat}
use Rattle.std.proofs.Common.{ap, ◌∙◌, inl, inr, arith}
use Rattle.std.proofs.lemmas.Bool.{cases_lt}
use Rattle.std.proofs.lemmas.List.Sums.{sum_by_push}
use Rattle.std.proofs.lemmas.List.Elements.{All-nil, All-push, All-weaker}
use Rattle.graph_core.specs.Picked.{picked, occurrences, IsDistinct}
use Rattle.graph_core.specs.Trees.{in_degree, IsBranching}
use Rattle.graph_core.proofs.Counting.{weight, sum_by-concat, sum_by-agree, sum_by-zero}
use Rattle.graph_core.specs.declared.graph.Line.{Line}
use Rattle.flow_cuts.specs.declared.network.Cap.{Cap}
use Rattle.edmonds_branchings.specs.Network.{network_of, cap_at, IsLeft}
use Rattle.edmonds_branchings.specs.Rooted.{beginning_at, CanBePacked, ArePacked}
use Rattle.edmonds_branchings.specs.Round.{HasCapacity}
use Rattle.edmonds_branchings.specs.Row.{IsMade}
use Rattle.graph_core.proofs.ForestRows.{none_past}
use Rattle.edmonds_branchings.proofs.Start.{left_start, unit_at, root_at, capacity_start}
use Rattle.edmonds_branchings.proofs.Taken.{some_line}

-- some branchings are made, and so many are to be made of the arcs that are left
pub record IsPacking (n rest : ℕ) (ls : List Line) (roots : List ℕ) (arcs : List Cap) (rows : List (List ℕ)) : Type 0 where
  pub left : IsLeft n ls arcs
  pub each : All (IsBranching n ls) rows
  pub once : (j : ℕ) → j < length ls → occurrences j (concat rows) + (cap_at arcs j).cap ≡ 1
  pub begin : (v : ℕ) → v < n → beginning_at v ls rows + (cap_at arcs (length ls + v)).cap ≤ slice_index roots v
  pub most : HasCapacity n rest arcs

pub packing_start : {n k : ℕ} {ls : List Line} {roots : List ℕ} → CanBePacked n k ls roots → IsPacking n k ls roots (network_of ls roots) []
packing_start {n} {k} {ls} {roots} can = record {
  left = left_start n ls roots can.long;
  each = All-nil (IsBranching n ls);
  once = λ j l. let (x, is) = some_line ls j l in omega (arith, unit_at ls roots j x is);
  begin = λ v l. omega (arith, ap (λ a. a.cap) (root_at ls roots v (omega (arith, can.long))));
  most = capacity_start can;
}

pub packing_more : {n rest : ℕ} {ls : List Line} {roots : List ℕ} {arcs after : List Cap} {rows : List (List ℕ)} {row : List ℕ}
    → IsPacking n rest ls roots arcs rows → IsMade n (rest - 1) ls arcs after row → IsPacking n (rest - 1) ls roots after (rows ++ row ∷ [])
packing_more {n} {rest} {ls} {roots} {arcs} {after} {rows} {row} p m = record {
  left = m.left;
  each = All-push (IsBranching n ls) rows row p.each m.branching;
  once = λ j l.
      let count = λ (i : ℕ). weight (i == j) in
      omega (arith, p.once j l, m.once j l, sum_by-concat count rows, sum_by-concat count (rows ++ row ∷ []), sum_by_push (λ r. occurrences j r) rows row);
  begin = λ v l. omega (arith, p.begin v l, m.begin v l, sum_by_push (λ r. weight (in_degree v (picked ls r) == 0)) rows row);
  most = m.most;
}

pub packed : {n k rest : ℕ} {ls : List Line} {roots : List ℕ} {arcs : List Cap} {rows : List (List ℕ)} → IsPacking n rest ls roots arcs rows → length rows ≡ k → ArePacked n k ls roots rows
packed {n} {k} {rest} {ls} {roots} {arcs} {rows} p many =
    let distinct : IsDistinct (concat rows) = λ j. elim (cases_lt j (length ls)) [
      | inl l ↦ omega (arith, p.once j l)
      | inr past ↦
          let none : occurrences j (concat rows) ≡ 0 =
          sum_by-concat (λ i. weight (i == j)) rows
          ∙ sum_by-agree (λ r. occurrences j r) (λ _. 0) rows
          (All-weaker (IsBranching n ls) (λ r. occurrences j r ≡ 0) (λ r b. none_past (length ls) j r b.forest.picks.in_range past) rows p.each)
          ∙ sum_by-zero rows in
          omega (arith, none)
    ] in
    record {
      many = many;
      each = p.each;
      disjoint = distinct;
      begin = λ v l. omega (arith, p.begin v l);
    }
