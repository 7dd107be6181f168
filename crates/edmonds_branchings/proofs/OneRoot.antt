-- All branchings begin at one root.
use Rattle.std.specs.Prelude.{ℕ, zero, suc, ◌≡◌, ◌^◌, ◌<◌, ◌==◌, Bool, List, length, replicate, slice_set, slice_index, slice_index_or, All, refl}
use Rattle.std.proofs.Common.{◌∙◌, inl, inr, arith, lit<}
use Rattle.std.proofs.lemmas.Bool.{cases_Bool}
use Rattle.std.proofs.lemmas.List.{length-set, length-replicate, get_or-set_same, get_or-set_other}
use Rattle.std.proofs.lemmas.List.Elements.{All-set, All-replicate}
use Rattle.graph_core.specs.Graph.{Fits}
use Rattle.graph_core.specs.Side.{has}
use Rattle.graph_core.specs.Lines.{entering}
use Rattle.graph_core.specs.Picked.{picked}
use Rattle.graph_core.specs.Trees.{in_degree, IsSpanningArborescence}
use Rattle.graph_core.proofs.Counting.{none-pass}
use Rattle.graph_core.specs.declared.graph.Line.{Line}
use Rattle.edmonds_branchings.specs.LeastSide.{IsLeastSide}
use Rattle.edmonds_branchings.specs.Rooted.{CanBePacked, ArePacked}
use Rattle.edmonds_branchings.proofs.Arborescence.{spanning}
use Rattle.graph_core.proofs.HeadLaws.{node-le-sum}

-- all branchings may begin at the root, and none elsewhere
abbrev pub root_alone : ℕ → ℕ → ℕ → List ℕ
root_alone n r k = slice_set (replicate n 0) r k

zero_at : (n v : ℕ) → slice_index (replicate n 0) v ≡ 0
zero_at zero v = refl
zero_at (suc n) zero = refl
zero_at (suc n) (suc v) = zero_at n v

pub can_be_packed : {n k r : ℕ} {ls : List Line} {X : List Bool} → r < n → IsLeastSide n ls r X → entering X ls ≡ k → CanBePacked n k ls (root_alone n r k)
can_be_packed {n} {k} {r} {ls} {X} below least is =
    let zeros : length (replicate n 0) ≡ n = length-replicate n 0 in
    record {
      long = length-set (replicate n 0) r k ∙ zeros;
      entered = λ Y y. elim (cases_Bool (has Y r)) [
        | inl holds ↦
            let at : slice_index (root_alone n r k) r ≡ k = get_or-set_same (replicate n 0) r k 0 (omega (arith, zeros)) in
            omega (arith, node-le-sum (slice_index (root_alone n r k)) Y r holds, at)
        | inr misses ↦ omega (arith, least.least Y y misses, is)
      ];
    }

-- each number of branchings fits 32 bits
pub root_small : (n r k : ℕ) → k < 2 ^ 32 → All (λ c. c < 2 ^ 32) (root_alone n r k)
root_small n r k small = All-set (λ c. c < 2 ^ 32) (replicate n 0) r k small (All-replicate (λ c. c < 2 ^ 32) n 0 (lit< tt))

pub all_spanning : {n k r : ℕ} {ls : List Line} {rows : List (List ℕ)} → r < n → All (Fits n) ls → ArePacked n k ls (root_alone n r k) rows → All (IsSpanningArborescence n ls r) rows
all_spanning {n} {k} {r} {ls} {rows} below fits are j d l =
    spanning r below fits (slice_index_or rows j d) (are.each j d l)
    (λ v lv ne.
    let none : slice_index (root_alone n r k) v ≡ 0 = get_or-set_other (replicate n 0) r v k 0 ne ∙ zero_at n v in
    none-pass (λ row. in_degree v (picked ls row) == 0) rows (omega (arith, are.begin v lv, none)) j d l)
