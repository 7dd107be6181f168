-- Two tight sides of the larger sum whose union is the whole: their complements are a tight family of the other sum.
use Rattle.std.specs.Prelude.{ℕ, ◌≡◌, ◌+◌, ◌<◌, ◌≤◌, Bool, true, false, not, ◌&&◌, ◌||◌, List, [], ◌∷◌, length, replicate, slice_index, sum, All, refl}
use Rattle.std.proofs.Common.{sym, ap, ◌∙◌, arith}
use Rattle.std.proofs.lemmas.List.{ext_get_or, get_or-replicate, length-replicate}
use Rattle.std.proofs.lemmas.List.Sums.{sum_by-cons}
use Rattle.std.proofs.lemmas.List.Elements.{All-nil, All-cons}
use Rattle.std.proofs.lemmas.Simd.{length-zip2}
use Rattle.graph_core.specs.Families.{members_with}
use Rattle.graph_core.specs.Graph.{Fits}
use Rattle.graph_core.specs.Side.{has, meet, join, complement, sum_over}
use Rattle.graph_core.specs.declared.graph.Line.{Line}
use Rattle.graph_core.proofs.Counting.{weight}
use Rattle.graph_core.proofs.HeadLaws.{node-le-sum}
use Rattle.graph_core.proofs.LineLaws.{lines_complement}
use Rattle.graph_core.proofs.ProperLaws.{proper-complement}
use Rattle.graph_core.proofs.SideLaws.{has-zip2, has-complement}
use Rattle.graph_core.proofs.WeightLaws.{nodes_meet, nodes_complement, nodes_all}
use Rattle.cut_fn.specs.Covered.{IsCovered, IsTight}
use Rattle.problem_defs.specs.Ways.{count_for, opposite}
use Rattle.problem_defs.specs.declared.cert.Way.{Way}
use Rattle.problem_defs.specs.declared.cert.Way.TheVariants.{Entering, Leaving}
use Rattle.flow_cuts.specs.StarValues.{with_counts}
use Rattle.star_net.specs.TightFamily.{IsTightFamily}
use Rattle.graph_core.proofs.ItemLaws.{counted_below}
use Rattle.star_net.proofs.TightFamilies.{tight_family}

-- what enters a side leaves its complement
pub count-complement : {n : ℕ} (way : Way) (ls : List Line) → All (Fits n) ls → (X : List Bool) → length X ≡ n → count_for (opposite way) ls (complement X) ≡ count_for way ls X
count-complement {n} Entering ls fits X e = lines_complement (λ a b. weight (a && not b)) (λ a b. weight (b && not a)) (λ a b. grind arith) n ls fits X e
count-complement {n} Leaving ls fits X e = lines_complement (λ a b. weight (b && not a)) (λ a b. weight (a && not b)) (λ a b. grind arith) n ls fits X e

not_both : (a b : Bool) → (a || b) ≡ true → weight (not a) + weight (not b) ≤ 1
not_both a b h = grind arith

one_out : (a b : Bool) → (a ≡ true → b ≡ true → ⊥) → 1 ≤ weight (not a) + weight (not b)
one_out true true h = absurd (h refl refl)
one_out true false h = omega arith
one_out false b h = omega arith

module _ {n k : ℕ} (p q : List Bool → ℕ) (a b : List ℕ) (X Y : List Bool)
    (long : length b ≡ n) (long' : length a ≡ n) (covered : IsCovered n k (with_counts q b)) (flip : (Z : List Bool) → length Z ≡ n → q (complement Z) ≡ p Z)
    (x : IsTight n k (with_counts p a) X) (y : IsTight n k (with_counts p a) Y)
    (whole : (v : ℕ) → v < n → (has X v || has Y v) ≡ true) (larger : sum b ≤ sum a) where
  same : length X ≡ length Y
  same = x.proper.long ∙ sym y.proper.long

  joined : join X Y ≡ replicate n true
  joined =
      ext_get_or false (join X Y) (replicate n true) (length-zip2 ◌||◌ X Y same ∙ x.proper.long ∙ sym (length-replicate n true))
      (λ v l. let below : v < n = omega (arith, length-zip2 ◌||◌ X Y same, x.proper.long) in has-zip2 ◌||◌ refl X Y v same ∙ whole v below ∙ sym (get_or-replicate n v true false below))

  all_of : (ws : List ℕ) → length ws ≡ n → sum_over (replicate n true) (slice_index ws) ≡ sum ws
  all_of ws e = ap (λ m. sum_over (replicate m true) (slice_index ws)) (sym e) ∙ nodes_all ws

  twice : (ws : List ℕ) → length ws ≡ n → sum_over (meet X Y) (slice_index ws) + sum ws ≡ sum_over X (slice_index ws) + sum_over Y (slice_index ws)
  twice ws e =
      ap (λ t. sum_over (meet X Y) (slice_index ws) + t) (sym (all_of ws e) ∙ ap (λ Z. sum_over Z (slice_index ws)) (sym joined))
      ∙ nodes_meet (slice_index ws) X Y same

  outside : (Z : List Bool) → length Z ≡ n → sum_over (complement Z) (slice_index b) + sum_over Z (slice_index b) ≡ sum b
  outside Z e = nodes_complement (slice_index b) Z ∙ ap (λ m. sum_over (replicate m true) (slice_index b)) e ∙ all_of b long

  no_more : (Z : List Bool) → IsTight n k (with_counts p a) Z → sum_over Z (slice_index a) ≤ sum_over (complement Z) (slice_index b)
  no_more Z z = omega (arith, covered (complement Z) (proper-complement Z z.proper), flip Z z.proper.long, z.value)

  -- so all that is compared is equal
  pub equal_sums : sum b ≡ sum a
  equal_sums = omega (arith, twice a long', twice b long, outside X x.proper.long, outside Y y.proper.long, no_more X x, no_more Y y)

  none_in_both : sum_over (meet X Y) (slice_index b) ≡ 0
  none_in_both = omega (arith, twice a long', twice b long, outside X x.proper.long, outside Y y.proper.long, no_more X x, no_more Y y)

  first_is : sum_over (complement X) (slice_index b) ≡ sum_over X (slice_index a)
  first_is = omega (arith, twice a long', twice b long, outside X x.proper.long, outside Y y.proper.long, no_more X x, no_more Y y)

  second_is : sum_over (complement Y) (slice_index b) ≡ sum_over Y (slice_index a)
  second_is = omega (arith, twice a long', twice b long, outside X x.proper.long, outside Y y.proper.long, no_more X x, no_more Y y)

  first : IsTight n k (with_counts q b) (complement X)
  first = record { proper = proper-complement X x.proper; value = omega (arith, first_is, flip X x.proper.long, x.value) }

  second : IsTight n k (with_counts q b) (complement Y)
  second = record { proper = proper-complement Y y.proper; value = omega (arith, second_is, flip Y y.proper.long, y.value) }

  members : (v : ℕ) → v < n → members_with v (complement X ∷ complement Y ∷ []) ≡ weight (not (has X v)) + weight (not (has Y v))
  members v l =
      omega (
        arith,
        sum_by-cons (λ Z. weight (has Z v)) (complement X) (complement Y ∷ []),
        sum_by-cons (λ Z. weight (has Z v)) (complement Y) [],
        ap weight (has-complement X v (omega (arith, x.proper.long))),
        ap weight (has-complement Y v (omega (arith, y.proper.long))),
      )

  pub complements_tight : IsTightFamily n k q b (complement X ∷ complement Y ∷ [])
  complements_tight = tight_family long
      (record { each = All-cons (IsTight n k (with_counts q b)) (complement X) (complement Y ∷ []) first (All-cons (IsTight n k (with_counts q b)) (complement Y) [] second (All-nil (IsTight n k (with_counts q b)))) })
      (record { at = λ v l. omega (arith, members v l, not_both (has X v) (has Y v) (whole v l)) })
      (λ v some.
      let l = counted_below b v long some in
      omega (
        arith,
        members v l,
        one_out (has X v) (has Y v) (λ i j.
            absurd (omega (arith, none_in_both, node-le-sum (slice_index b) (meet X Y) v (has-zip2 ◌&&◌ refl X Y v same ∙ (λ t. i t && j t))))),
      ))
