-- Runs in the network of a star, and the sides without the new node.
use Rattle.std.specs.Prelude.{ℕ, ◌≡◌, ◌+◌, ◌<◌, ◌≤◌, Bool, true, false, List, [], ◌∷◌, ◌++◌, length, slice_set, All}
use Rattle.std.proofs.Common.{sym, ap, ◌∙◌, inl, inr, arith}
use Rattle.std.proofs.lemmas.Bool.{cases_eq, cases_lt}
use Rattle.std.proofs.lemmas.List.{length-append, get_or-set_same, get_or-set_other, get_or_past}
use Rattle.std.proofs.lemmas.List.Elements.{All-append, All-weaker}
use Rattle.graph_core.specs.Limits.{side_room}
use Rattle.graph_core.specs.Side.{has, IsOnly}
use Rattle.cut_fn.specs.TwoSides.{IsWithin}
use Rattle.flow_cuts.specs.Cuts.{IsLeastCapacity, IsMinimumCut, IsSmallestCut, IsLargestCut}
use Rattle.flow_cuts.specs.LeastMissing.{HasMissing, IsLeastMissing}
use Rattle.flow_cuts.specs.Network.{Separates, arc_room, capacity}
use Rattle.flow_cuts.specs.NewNode.{count_arcs, with_new_node, value_with, AreArcs}
use Rattle.flow_cuts.specs.StarRun.{AreRunSides}
use Rattle.flow_cuts.specs.declared.network.Cap.{Cap}
use Rattle.flow_cuts.proofs.NewNodes.{length-count_arcs, ends-count_arcs, capacity-new_node, has-narrow, has-more}

module _ {arcs : List Cap} (counts : List ℕ) (a : AreArcs (length counts) arcs) (nodes : length counts < side_room) where
  pub few_arcs : length (with_new_node arcs counts) ≤ arc_room
  few_arcs = omega (arith, length-append arcs (count_arcs (length counts) 0 counts), length-count_arcs (length counts) 0 counts, a.few)

  pub new_ends : All (λ arc. (arc.tail < length counts + 1) × (arc.head < length counts + 1)) (with_new_node arcs counts)
  new_ends =
      let n = length counts in
      All-append (λ arc. (arc.tail < n + 1) × (arc.head < n + 1)) arcs (count_arcs n 0 counts)
      (All-weaker (λ arc. (arc.tail < n) × (arc.head < n)) (λ arc. (arc.tail < n + 1) × (arc.head < n + 1)) (λ arc e. (let l = e.0 in omega arith, let l = e.1 in omega arith)) arcs a.ends)
      (ends-count_arcs (n + 1) n 0 counts (omega arith) (omega arith))

-- the sides of a run: the nodes held without the new one, and the new node with the one missed
pub run_sides : {n w : ℕ} {H : List Bool} (J P : List Bool) → length H ≡ n → length J ≡ n + 1 → ((v : ℕ) → v < n → has J v ≡ has H v)
    → length P ≡ n + 1 → IsOnly P n → w ≤ n → AreRunSides n H w (slice_set J n false) (slice_set P w true)
run_sides {n} {w} {H} J P short long first wide only l = record {
  inside = λ v. elim (cases_eq v n) [
    | inl e ↦ ap (has (slice_set J n false)) e ∙ get_or-set_same J n false false (omega arith) ∙ sym (get_or_past H v false (omega arith))
    | inr ne ↦ get_or-set_other J n v false false ne ∙ sym (has-narrow' v ne)
  ];
  missed = get_or-set_same P w true false (omega arith);
  last = (elim (cases_eq n w) [
    | inl e ↦ ap (has (slice_set P w true)) e ∙ get_or-set_same P w true false (omega arith)
    | inr ne ↦ get_or-set_other P w n true false ne ∙ only.here
  ]);
  others = λ v o. elim (cases_eq v w) [
    | inl e ↦ inl e
    | inr ne ↦ inr (only.only v (sym (get_or-set_other P w v true false ne) ∙ o))
  ];
}
  where
    has-narrow' : (v : ℕ) → (v ≡ n → ⊥) → has H v ≡ has J v
    has-narrow' v ne = elim (cases_lt v n) [
      | inl lt ↦ sym (first v lt)
      | inr past ↦ get_or_past H v false (omega arith) ∙ sym (get_or_past J v false (omega arith))
    ]

module _ (arcs : List Cap) (counts : List ℕ) {H I O : List Bool} {w : ℕ} (s : AreRunSides (length counts) H w I O) where
  -- a side of the nodes with the new node outside
  separated : (Y : List Bool) → length Y ≡ length counts → IsWithin H Y → has Y w ≡ false → Separates (length counts + 1) I O (Y ++ false ∷ [])
  separated Y long holds out = record {
    long = length-append Y (false ∷ []) ∙ omega arith;
    holds = λ v i. has-more Y v ∙ holds.at v (sym (s.inside v) ∙ i);
    misses = λ v o.
        has-more Y v
        ∙ (elim (s.others v o) [
          | inl e ↦ ap (has Y) e ∙ out
          | inr e ↦ get_or_past Y v false (omega arith)
        ]);
  }

  value_wide : (Y : List Bool) → length Y ≡ length counts → capacity (Y ++ false ∷ []) (with_new_node arcs counts) ≡ value_with arcs counts Y
  value_wide Y long = capacity-new_node arcs counts (Y ++ false ∷ []) Y (has-more Y) (has-more Y (length counts) ∙ get_or_past Y (length counts) false (omega arith))

  module _ {stop answer : ℕ} (least : IsLeastCapacity (length counts + 1) I O (with_new_node arcs counts) stop answer) where
    pub least_missing : (X : List Bool) → (answer < stop → HasMissing (length counts) (value_with arcs counts) H w answer X)
        → IsLeastMissing (length counts) (value_with arcs counts) H w stop answer X
    least_missing X reached = record {
      stopped = least.stopped;
      least = λ Y long holds out. omega (arith, least.least (Y ++ false ∷ []) (separated Y long holds out), value_wide Y long);
      reached = reached;
    }

    -- a side of least value is a least cut
    cut_of : (Y : List Bool) → HasMissing (length counts) (value_with arcs counts) H w answer Y
        → IsMinimumCut (length counts + 1) I O (with_new_node arcs counts) answer (Y ++ false ∷ [])
    cut_of Y y = record { separates = separated Y y.long y.holds y.misses; value_is = value_wide Y y.long ∙ y.value_is; least = least.least }

    module _ {Z : List Bool} (X : List Bool) (long : length X ≡ length counts) (first : (v : ℕ) → v < length counts → has X v ≡ has Z v) where
      same_nodes : IsMinimumCut (length counts + 1) I O (with_new_node arcs counts) answer Z → (v : ℕ) → has Z v ≡ has X v
      same_nodes cut = has-narrow (length counts) Z X cut.separates.long long (cut.separates.misses (length counts) s.last) first

      -- a least cut without the new node is a side of least value
      pub narrowed : IsMinimumCut (length counts + 1) I O (with_new_node arcs counts) answer Z → HasMissing (length counts) (value_with arcs counts) H w answer X
      narrowed cut =
          let same = same_nodes cut in
          record {
            long = long;
            holds = record { at = λ v i. sym (same v) ∙ cut.separates.holds v (s.inside v ∙ i) };
            misses = sym (same w) ∙ cut.separates.misses w s.missed;
            value_is = sym (capacity-new_node arcs counts Z X same (cut.separates.misses (length counts) s.last)) ∙ cut.value_is;
          }

      pub smallest : IsSmallestCut (length counts + 1) I O (with_new_node arcs counts) answer Z → (Y : List Bool)
          → HasMissing (length counts) (value_with arcs counts) H w answer Y → IsWithin X Y
      smallest cut Y y = record { at = λ v i. sym (has-more Y v) ∙ (cut.smallest (Y ++ false ∷ []) (cut_of Y y)).at v (same_nodes cut.cut v ∙ i) }

      pub largest : IsLargestCut (length counts + 1) I O (with_new_node arcs counts) answer Z → (Y : List Bool)
          → HasMissing (length counts) (value_with arcs counts) H w answer Y → IsWithin Y X
      largest cut Y y = record { at = λ v i. sym (same_nodes cut.cut v) ∙ (cut.largest (Y ++ false ∷ []) (cut_of Y y)).at v (has-more Y v ∙ i) }
