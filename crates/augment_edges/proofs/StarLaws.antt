-- A least star with an even sum can be split off, and leaves as few edges as its tight family asks for.
use Rattle.std.specs.Prelude.{ℕ, ◌≡◌, ◌≢◌, ◌+◌, ◌-◌, ◌*◌, ◌<◌, ◌≤◌, Bool, List, ◌++◌, length, slice_index, sum, sum_by, All}
use Rattle.std.proofs.Common.{sym, ap, ◌∙◌, subst, arith}
use Rattle.std.proofs.lemmas.Grind.{div_ceil_times}
use Rattle.std.proofs.lemmas.List.Elements.{All-map, All-weaker}
use Rattle.graph_core.specs.Side.{sum_over, IsProper}
use Rattle.graph_core.specs.Graph.{GraphValue, Fits, IsWithinSize, line_of, lines_of}
use Rattle.graph_core.specs.Lines.{degree}
use Rattle.graph_core.specs.Connected.{IsEdgeConnected}
use Rattle.graph_core.proofs.Counting.{All-both, lack-is}
use Rattle.cut_fn.specs.Covered.{IsTight}
use Rattle.cut_fn.specs.Stars.{star_cut}
use Rattle.cut_fn.specs.declared.stars.Star.{Star}
use Rattle.cut_fn.proofs.Families.{tight_with}
use Rattle.flow_cuts.specs.StarValues.{with_counts}
use Rattle.problem_defs.specs.Augment.{IsFeasible, half_bound}
use Rattle.split_undirected.specs.Split.{lines_after, CanBeSplit, AreInDangerous, IsSplit}
use Rattle.split_undirected.proofs.PairLaws.{half_as_many, lines_after-all}
use Rattle.star_net.specs.TightStar.{IsTightStar}
use Rattle.star_net.specs.declared.edge_star.TightStar.{TightStar}
use Rattle.star_net.proofs.TightFamilies.{family_few}
use Rattle.augment_edges.specs.Even.{IsMadeEven}
use Rattle.augment_edges.proofs.EvenLaws.{made_even-sum}

-- few edges, so that one more is few too
pub few_edges : {k : ℕ} {g : GraphValue} (t : TightStar) → IsTightStar k g t → k ≤ 32 → IsWithinSize g → sum t.star.count ≤ 4096
few_edges t tight high size = omega (arith, family_few tight.family high, t.star.long, ap (λ h. length h.names) tight.graph, size.nodes)

module _ {k : ℕ} {g : GraphValue} (t : TightStar) (tight : IsTightStar k g t) (s : Star) (same : s.graph ≡ t.star.graph) (made : IsMadeEven t.star.count s.count) where
  graph : s.graph ≡ g
  graph = same ∙ tight.graph

  names : length s.graph.names ≡ length g.names
  names = ap (λ h. length h.names) graph

  value : (X : List Bool) → star_cut s X ≡ degree X g.lines + sum_over X (slice_index s.count)
  value X = ap (λ h. degree X h.lines + sum_over X (slice_index s.count)) graph

  value_least : (X : List Bool) → star_cut t.star X ≡ degree X g.lines + sum_over X (slice_index t.star.count)
  value_least X = ap (λ h. degree X h.lines + sum_over X (slice_index t.star.count)) tight.graph

  pub can_be_split : 2 ≤ k → k ≤ 32 → IsWithinSize g → CanBeSplit k s
  can_be_split two high size = record {
    two = two;
    even = made.even;
    covered = λ X proper. omega (arith, tight.covered X (subst (λ m. IsProper m X) names proper), value X, value_least X, made.least X);
    room = omega (arith, (made_even-sum t.star.count s.count made).1, few_edges t tight high size, ap (λ h. length h.lines) graph, size.lines);
  }

  -- a side that was tight has at most one edge more
  dangerous : AreInDangerous k s
  dangerous v l some =
      let (X, x, inside) = tight_with t.family tight.family.tight.each v (tight.family.holds v (made.held v some)) in
      (X, subst (λ m. IsProper m X) (sym names) x.proper, inside, omega (arith, value X, x.value, made.most X))

  module _ (pairs : List (ℕ × ℕ)) (split : IsSplit k s pairs) where
    pub split_feasible : IsFeasible k g pairs
    split_feasible =
        let n = length g.names in
        let P : ℕ × ℕ → Type 0 = λ p. (p.0 < n) × (p.1 < n) in
        let different = split.different dangerous in
        let nodes : All P pairs = subst (λ m. All (λ (p : ℕ × ℕ). (p.0 < m) × (p.1 < m)) pairs) names split.nodes in
        let lines : lines_after s.graph.lines pairs ≡ g.lines ++ lines_of pairs = lines_after-all s.graph.lines pairs different ∙ ap (λ h. h.lines ++ lines_of pairs) graph in
        record {
          fit = All-map (Fits n) line_of pairs (All-both P (λ p. p.0 ≢ p.1) (λ p. Fits n (line_of p)) (λ p b d. record { tail = b.0; head = b.1; apart = d }) pairs nodes different);
          connected = subst (λ L. IsEdgeConnected k n L) lines (subst (λ m. IsEdgeConnected k m (lines_after s.graph.lines pairs)) names split.connected);
        }

    pub split_meets_bound : length pairs ≡ half_bound k g t.family
    split_meets_bound =
        let h : List Bool → ℕ = λ X. degree X g.lines in
        let demand = k * length t.family - sum_by h t.family in
        let lack : sum_by (λ X. k - h X) t.family ≡ demand =
        lack-is k h t.family (All-weaker (IsTight (length g.names) k (with_counts h t.star.count)) (λ X. h X ≤ k) (λ X t. omega (arith, t.value)) t.family tight.family.tight.each) in
        let half = div_ceil_times demand 2 (omega arith) in
        let sums = made_even-sum t.star.count s.count made in
        omega (arith, half.0, half.1, half_as_many s pairs split, tight.family.lacks, sums.0, sums.1, made.even)
