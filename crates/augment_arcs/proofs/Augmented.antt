-- A least star of a digraph that is split off: new arcs, and a family that lacks as many.
use Rattle.std.specs.Prelude.{ℕ, ◌≡◌, ◌≢◌, ◌+◌, ◌<◌, ◌≤◌, ◌⊎◌, ◌++◌, Bool, List, length, sum, All}
use Rattle.std.proofs.Common.{sym, subst, ◌∙◌, inl, inr, arith}
use Rattle.std.proofs.lemmas.List.Elements.{All-map, All-weaker}
use Rattle.graph_core.specs.Connected.{IsArcConnected}
use Rattle.graph_core.specs.Graph.{GraphValue, Fits, IsWithinSize, line_of, lines_of}
use Rattle.graph_core.proofs.Counting.{All-both, lack-is}
use Rattle.graph_core.proofs.PairLaws.{apart_all}
use Rattle.cut_fn.specs.Covered.{IsTight}
use Rattle.cut_fn.proofs.Families.{tight_with}
use Rattle.cut_fn.specs.declared.stars.ArcStar.{ArcStar}
use Rattle.problem_defs.specs.AugmentArcs.{IsFeasible, bound}
use Rattle.problem_defs.specs.Ways.{count_for}
use Rattle.problem_defs.specs.declared.cert.Way.{Way}
use Rattle.problem_defs.specs.declared.cert.Way.TheVariants.{Entering, Leaving}
use Rattle.split_directed.specs.Pairs.{AreHeadsTight, AreTailsTight, SplitInto}
use Rattle.cut_fn.specs.Stars.{star_of}
use Rattle.flow_cuts.specs.StarValues.{with_counts, counts_for}
use Rattle.star_net.specs.TightArcStar.{IsTightArcStar}
use Rattle.star_net.specs.TightFamily.{IsTightFamily}
use Rattle.star_net.specs.declared.arc_star.TightArcStar.{TightArcStar}
use Rattle.star_net.proofs.TightFamilies.{family_few}

-- the star's graph is the one given
pub own_graph : {k : ℕ} {g : GraphValue} {t : TightArcStar} → IsTightArcStar k g t → IsTightArcStar k t.star.graph t
own_graph {k} {g} {t} least = subst (λ h. IsTightArcStar k h t) (sym least.graph) least

counts_long : (way : Way) (s : ArcStar) → length (counts_for way (star_of s)) ≡ length s.graph.names
counts_long Entering s = s.into_long
counts_long Leaving s = s.out_long

-- either way the counts have one sum
counts_sum : (way : Way) (s : ArcStar) → sum s.into ≡ sum s.out → sum (counts_for way (star_of s)) ≡ sum s.into
counts_sum Entering s same = λ i. sum s.into
counts_sum Leaving s same = sym same

-- the nodes with a count of the family's way lie in its members
ends_tight : (k : ℕ) (way : Way) (s : ArcStar) (P : List (List Bool)) → IsTightFamily (length s.graph.names) k (count_for way s.graph.lines) (counts_for way (star_of s)) P
    → AreHeadsTight (length s.graph.names) k (star_of s) ⊎ AreTailsTight (length s.graph.names) k (star_of s)
ends_tight k Entering s P family = inl (λ v l some. tight_with P family.tight.each v (family.holds v some))
ends_tight k Leaving s P family = inr (λ v l some. tight_with P family.tight.each v (family.holds v some))

module _ {k : ℕ} {t : TightArcStar} (least : IsTightArcStar k t.star.graph t) where
  pub star_room : k ≤ 32 → IsWithinSize t.star.graph → length t.star.graph.lines + sum t.star.into ≤ 65536
  star_room low size = omega (arith, family_few least.family low, counts_long t.way t.star, counts_sum t.way t.star least.equal, size.nodes, size.lines)

  module _ {pairs : List (ℕ × ℕ)} (split : SplitInto (length t.star.graph.names) k (star_of t.star) pairs) where
    differ : All (λ p. p.0 ≢ p.1) pairs
    differ = split.different (ends_tight k t.way t.star t.family least.family)

    -- the pairs are new arcs
    pub split_feasible : IsFeasible k t.star.graph pairs
    split_feasible =
        let n = length t.star.graph.names in
        record {
          fit = All-map (Fits n) line_of pairs (All-both (λ p. (p.0 < n) × (p.1 < n)) (λ p. p.0 ≢ p.1) (λ p. Fits n (line_of p)) (λ p i a. record { tail = i.0; head = i.1; apart = a }) pairs split.nodes differ);
          connected = subst (λ ps. IsArcConnected k n (t.star.graph.lines ++ lines_of ps)) (apart_all pairs differ) split.connected;
        }

    -- as many as the family lacks
    pub split_equal : length pairs ≡ bound k t.star.graph (record { way = t.way; sides = t.family })
    split_equal =
        let h = count_for t.way t.star.graph.lines in
        split.many ∙ sym (counts_sum t.way t.star least.equal) ∙ least.family.lacks
        ∙ lack-is k h t.family (All-weaker (IsTight (length t.star.graph.names) k (with_counts h (counts_for t.way (star_of t.star)))) (λ X. h X ≤ k) (λ X x. let e = x.value in omega arith) t.family least.family.tight.each)
