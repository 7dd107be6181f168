-- The end of a round: all nodes are covered.
use Rattle.std.specs.Prelude.{ℕ, zero, suc, ◌≡◌, ◌+◌, ◌-◌, ◌<◌, ◌≤◌, ◌==◌, Bool, true, List, length}
use Rattle.std.proofs.Common.{sym, ap, ◌∙◌, inl, inr, arith}
use Rattle.std.proofs.lemmas.Bool.{cases_lt, ne_eqb}
use Rattle.graph_core.specs.Side.{has, size}
use Rattle.graph_core.specs.Picked.{picked, IsDistinct}
use Rattle.graph_core.specs.Trees.{in_degree}
use Rattle.graph_core.proofs.Counting.{weight}
use Rattle.graph_core.specs.declared.graph.Line.{Line}
use Rattle.flow_cuts.specs.declared.network.Cap.{Cap}
use Rattle.edmonds_branchings.specs.Network.{cap_at}
use Rattle.edmonds_branchings.specs.Round.{IsRound}
use Rattle.edmonds_branchings.specs.Row.{IsRow, IsMade}
use Rattle.graph_core.proofs.ForestRows.{none_past}
use Rattle.graph_core.proofs.PutLaws.{all_there}

root_or_head : (d a b : ℕ) → d ≤ 1 → a + 1 ≤ b + d → a + weight (d == 0) ≤ b
root_or_head zero a b one h = omega arith
root_or_head (suc d) a b one h = omega (arith, ap weight (ne_eqb (suc d) 0 (λ e. absurd (omega arith))))

pub made : {n k : ℕ} {ls : List Line} {before arcs : List Cap} {T : List Bool} {row : List ℕ} → IsRow n ls before arcs T row → IsRound n k arcs T → size T ≡ n + 1
    → ((j : ℕ) → j < length ls → (cap_at before j).cap ≤ 1) → IsMade n (k - 1) ls before arcs row
made {n} {k} {ls} {before} {arcs} {T} {row} r round all units =
    let there : (v : ℕ) → v < n + 1 → has T v ≡ true = λ v l. all_there T (all ∙ sym round.long) v (omega (arith, round.long)) in
    let heads : (v : ℕ) → v < n → in_degree v (picked ls row) ≤ 1 = λ v l. omega (arith, r.heads v, ap weight (there v (omega arith))) in
    let distinct : IsDistinct row = λ j. elim (cases_lt j (length ls)) [
      | inl l ↦ omega (arith, r.once j l, units j l)
      | inr past ↦ omega (arith, none_past (length ls) j row r.numbers past)
    ] in
    record {
      left = r.left;
      branching = record { forest = record { picks = record { in_range = r.numbers; distinct = distinct }; acyclic = r.acyclic }; heads = heads };
      once = r.once;
      begin = λ v l. root_or_head (in_degree v (picked ls row)) _ _ (heads v l) (omega (arith, r.begin v l, ap weight (there v (omega arith))));
      most = λ X x. omega (arith, round.most X x);
    }
