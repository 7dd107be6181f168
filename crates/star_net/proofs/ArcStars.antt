-- The families of the two ways of a star of a digraph.
use Rattle.std.specs.Prelude.{ℕ, ◌≡◌, ◌≤◌, Bool, List, [], ◌∷◌, length, slice_index, sum, All}
use Rattle.std.proofs.Common.{sym, ap, subst, arith}
use Rattle.graph_core.specs.Families.{members_with}
use Rattle.graph_core.specs.Graph.{GraphValue, Fits}
use Rattle.graph_core.specs.Lines.{entering, leaving}
use Rattle.graph_core.specs.Side.{complement, sum_over}
use Rattle.graph_core.proofs.WeightLaws.{nodes_le}
use Rattle.cut_fn.specs.Covered.{IsCovered, AreTight}
use Rattle.cut_fn.specs.Members.{member, AreDisjoint, IsCross}
use Rattle.cut_fn.specs.declared.stars.ArcStar.{ArcStar}
use Rattle.cut_fn.proofs.Families.{first_below}
use Rattle.problem_defs.specs.Ways.{count_for, opposite}
use Rattle.problem_defs.specs.declared.cert.Way.{Way}
use Rattle.problem_defs.specs.declared.cert.Way.TheVariants.{Entering, Leaving}
use Rattle.cut_fn.specs.Stars.{star_of}
use Rattle.flow_cuts.specs.StarValues.{with_counts, counts_for, value_for}
use Rattle.star_net.specs.Lowered.{IsLowered}
use Rattle.star_net.specs.TightFamily.{IsTightFamily}
use Rattle.star_net.proofs.CrossPair.{count-complement, equal_sums, complements_tight}
use Rattle.star_net.proofs.TightFamilies.{tight_family}

long_for : (way : Way) (s : ArcStar) → length (counts_for way (star_of s)) ≡ length s.graph.names
long_for Entering s = s.into_long
long_for Leaving s = s.out_long

-- tight sides of lowered counts, in the star's own words
pub lowered_tight : {k : ℕ} {g g' : GraphValue} {ws ws' : List ℕ} {P : List (List Bool)} (way : Way) → g' ≡ g → ws' ≡ ws
    → IsLowered (length g.names) k (count_for way g.lines) (length g.names) ws P → AreTight (length g'.names) k (with_counts (count_for way g'.lines) ws') P
lowered_tight {k} {g} {g'} {ws} {ws'} {P} way eg ew l =
    subst (λ cs. AreTight (length g'.names) k (with_counts (count_for way g'.lines) cs) P) (sym ew)
    (subst (λ t. AreTight (length t.names) k (with_counts (count_for way t.lines) ws) P) (sym eg) l.tight)

-- counts of the other way that are raised
pub covered_raised : {n k : ℕ} (way : Way) (s s' : ArcStar) → s'.graph ≡ s.graph → counts_for way (star_of s') ≡ counts_for way (star_of s)
    → ((v : ℕ) → slice_index (counts_for (opposite way) (star_of s)) v ≤ slice_index (counts_for (opposite way) (star_of s')) v)
    → ((by : Way) → IsCovered n k (value_for by (star_of s))) → (by : Way) → IsCovered n k (value_for by (star_of s'))
covered_raised Entering s s' eg same raised covered Entering X p =
    omega (arith, ap (λ t. entering X t.lines) eg, ap (λ ws. sum_over X (slice_index ws)) same, covered Entering X p)
covered_raised Entering s s' eg same raised covered Leaving X p =
    omega (arith, ap (λ t. leaving X t.lines) eg, nodes_le (slice_index s.out) (slice_index s'.out) X raised, covered Leaving X p)
covered_raised Leaving s s' eg same raised covered Entering X p =
    omega (arith, ap (λ t. entering X t.lines) eg, nodes_le (slice_index s.into) (slice_index s'.into) X raised, covered Entering X p)
covered_raised Leaving s s' eg same raised covered Leaving X p =
    omega (arith, ap (λ t. leaving X t.lines) eg, ap (λ ws. sum_over X (slice_index ws)) same, covered Leaving X p)

module _ {k : ℕ} {P : List (List Bool)} (way : Way) (s : ArcStar) (tight : AreTight (length s.graph.names) k (value_for way (star_of s)) P) where
  -- the merged family, where it is disjoint
  pub disjoint_family : AreDisjoint (length s.graph.names) P → ((v : ℕ) → 1 ≤ slice_index (counts_for way (star_of s)) v → 1 ≤ members_with v P)
      → IsTightFamily (length s.graph.names) k (count_for way s.graph.lines) (counts_for way (star_of s)) P
  disjoint_family disjoint holds = tight_family (long_for way s) tight disjoint holds

  module _ (fits : All (Fits (length s.graph.names)) s.graph.lines) (covered : (by : Way) → IsCovered (length s.graph.names) k (value_for by (star_of s)))
      (less : sum (counts_for (opposite way) (star_of s)) ≤ sum (counts_for way (star_of s))) {i j : ℕ} (cross : IsCross (length s.graph.names) P i j) where
    -- where two members cross, their complements the other way
    pub cross_family : IsTightFamily (length s.graph.names) k (count_for (opposite way) s.graph.lines) (counts_for (opposite way) (star_of s)) (complement (member P i) ∷ complement (member P j) ∷ [])
    cross_family =
        complements_tight (count_for way s.graph.lines) (count_for (opposite way) s.graph.lines) (counts_for way (star_of s)) (counts_for (opposite way) (star_of s)) (member P i) (member P j) (long_for (opposite way) s) (long_for way s) (covered (opposite way)) (count-complement way s.graph.lines fits)
        (tight.each i [] (first_below cross.clash)) (tight.each j [] cross.clash.there) cross.whole less

    pub cross_equal : sum (counts_for (opposite way) (star_of s)) ≡ sum (counts_for way (star_of s))
    cross_equal =
        equal_sums (count_for way s.graph.lines) (count_for (opposite way) s.graph.lines) (counts_for way (star_of s)) (counts_for (opposite way) (star_of s)) (member P i) (member P j) (long_for (opposite way) s) (long_for way s) (covered (opposite way)) (count-complement way s.graph.lines fits)
        (tight.each i [] (first_below cross.clash)) (tight.each j [] cross.clash.there) cross.whole less

-- the two sums, by either name
pub either_way : (way : Way) (s : ArcStar) → sum (counts_for (opposite way) (star_of s)) ≡ sum (counts_for way (star_of s)) → sum s.into ≡ sum s.out
either_way Entering s e = sym e
either_way Leaving s e = e
