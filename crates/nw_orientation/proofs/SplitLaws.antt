-- The star that is left when a node is taken out is covered, and needed edges stay needed when it is split off.
use Rattle.std.specs.Prelude.{ℕ, ◌≡◌, ◌+◌, ◌<◌, ◌≤◌, ◌==◌, Bool, true, false, not, cond, List, [], ◌∷◌, ◌++◌, length, replicate, slice_index, sum, count_by, All, refl}
use Rattle.std.proofs.Common.{sym, ◌∙◌, arith, inl, inr}
use Rattle.std.proofs.lemmas.Bool.{cases_Bool, cases_eq, eq-eqb, ne_eqb}
use Rattle.std.proofs.lemmas.List.{length-replicate}
use Rattle.std.proofs.lemmas.List.Elements.{All-map, All-weaker}
use Rattle.std.proofs.lemmas.List.Sums.{sum_by-append}
use Rattle.graph_core.specs.Connected.{IsEdgeConnected}
use Rattle.graph_core.specs.Graph.{Fits, lines_of}
use Rattle.graph_core.specs.Lines.{crosses, differ, degree}
use Rattle.graph_core.specs.Picked.{occurrences}
use Rattle.graph_core.specs.Side.{has, sum_over, IsProper}
use Rattle.graph_core.proofs.CutLaws.{other_out, other_in}
use Rattle.graph_core.proofs.Counting.{weight, All-both, count-all}
use Rattle.graph_core.proofs.HeadLaws.{nodes_named}
use Rattle.graph_core.proofs.SizeLaws.{count-cons}
use Rattle.graph_core.specs.declared.graph.Line.{Line}
use Rattle.split_undirected.specs.Split.{ends_at}
use Rattle.split_undirected.proofs.SplitLaws.{pairs_ends_in, degree-pairs}
use Rattle.nw_orientation.specs.Chosen.{chosen}
use Rattle.nw_orientation.specs.Moved.{moved, moved_line, touches, other_end, apart_marks, others, spokes, spoke_ends}
use Rattle.nw_orientation.specs.Needed.{IsNeeded}
use Rattle.nw_orientation.specs.SplitOff.{IsSpoke}
use Rattle.nw_orientation.proofs.ChosenLaws.{All-chosen}
use Rattle.nw_orientation.proofs.MovedLaws.{across, moved_below, degree-across, crosses-across, IsApart, far_apart, near_touch, other_is}
use Rattle.graph_core.proofs.WeightLaws.{nodes_agree, nodes_all}
use Rattle.graph_core.specs.Sets.{set_of}
use Rattle.graph_core.proofs.SetLaws.{length_of, has_of}
use Rattle.graph_core.proofs.SideLaws.{same_sides, has-below, has-whole}
use Rattle.graph_core.proofs.ProperLaws.{is_proper, node_in}
use Rattle.graph_core.specs.Pairs.{apart}

-- a side of the nodes that are left, as a side of all that misses z
abbrev pub without : ℕ → ℕ → List Bool → List Bool
without z q Y = set_of (q + 1) (λ v. cond (v == z) false (has Y (moved z q v)))

module _ (z q : ℕ) (lz : z ≤ q) where
  without_z : (Y : List Bool) → has (without z q Y) z ≡ false
  without_z Y = has_of (q + 1) (λ v. cond (v == z) false (has Y (moved z q v))) z (omega arith) ∙ rw (eq-eqb z z refl) refl

  without_old : (Y : List Bool) (v : ℕ) → v < q → has (without z q Y) (cond (v == z) q v) ≡ has Y v
  without_old Y v lv = elim (cases_eq v z) [
    | inl e ↦ rw (e, eq-eqb z z refl) (has_of (q + 1) (λ u. cond (u == z) false (has Y (moved z q u))) q (omega arith) ∙ rw (ne_eqb q z (λ h. absurd (omega arith)), eq-eqb q q refl) refl)
    | inr ne ↦ rw (ne_eqb v z ne) (has_of (q + 1) (λ u. cond (u == z) false (has Y (moved z q u))) v (omega arith) ∙ rw (ne_eqb v z ne, ne_eqb v q (λ h. absurd (omega arith))) refl)
  ]

  across-without : (Y : List Bool) → length Y ≡ q → across z q lz (without z q Y) ≡ Y
  across-without Y long =
      let X = without z q Y in
      same_sides (across z q lz X) Y (length_of q (λ v. differ (has X z) (has X (cond (v == z) q v)))) long
      (λ v lv. has_of q (λ u. differ (has X z) (has X (cond (u == z) q u))) v lv ∙ (λ t. differ (without_z Y t) (without_old Y v lv t)))

  proper-without : (Y : List Bool) → IsProper q Y → IsProper (q + 1) (without z q Y)
  proper-without Y p =
      let (u, lu, hu) = node_in Y p in
      is_proper (without z q Y) (cond (u == z) q u) z (length_of (q + 1) (λ v. cond (v == z) false (has Y (moved z q v)))) (without_old Y u lu ∙ hu) (omega arith) (without_z Y)

  -- the star is covered
  pub covered : (c : ℕ) (ls : List Line) → All (Fits (q + 1)) ls → IsEdgeConnected c (q + 1) ls → (Y : List Bool) → IsProper q Y → c ≤ degree Y (others z q ls) + count_by (has Y) (spoke_ends z q ls)
  covered c ls fits conn Y p =
      let all = degree-across z q lz (without z q Y) ls fits in
      let same : degree (without z q Y) ls ≡ degree Y (others z q ls) + count_by (has Y) (spoke_ends z q ls) = rw (across-without Y p.long) at all in
      omega (arith, conn (without z q Y) (proper-without Y p))

-- counts at the nodes, over a side
pub count_ends : (cs ends : List ℕ) (Y : List Bool) → length Y ≡ length cs → ((v : ℕ) → v < length cs → slice_index cs v ≡ occurrences v ends) → sum_over Y (slice_index cs) ≡ count_by (has Y) ends
count_ends cs ends Y long each =
    nodes_agree (slice_index cs) (λ v. occurrences v ends) Y (λ v h. each v (omega (arith, has-below Y v h))) ∙ nodes_named (λ w. w) Y ends

pub sum-ends : (cs ends : List ℕ) → ((v : ℕ) → v < length cs → slice_index cs v ≡ occurrences v ends) → All (λ w. w < length cs) ends → sum cs ≡ length ends
sum-ends cs ends each low =
    let all = replicate (length cs) true in
    sym (nodes_all cs) ∙ count_ends cs ends all (length-replicate (length cs) true) each
    ∙ count-all (has all) ends (All-weaker (λ w. w < length cs) (λ w. has all w ≡ true) (λ w l. has-whole (length cs) w l) ends low)

-- the lines of z
pub length-spokes : (z : ℕ) (ls : List Line) → length (spokes z ls) ≡ count_by (touches z) ls
length-spokes z [] = refl
length-spokes z (l ∷ ls) =
    let rest = length-spokes z ls in
    rw (count-cons (touches z) l ls)
    (elim (touches z l) as (λ b. length (chosen false (l ∷ ls) (not b ∷ apart_marks z ls)) ≡ weight b + count_by (touches z) ls) [ true ↦ omega arith | false ↦ omega arith ])

module _ (z q : ℕ) (lz : z ≤ q) (ls : List Line) (fits : All (Fits (q + 1)) ls) (pairs : List (ℕ × ℕ)) (each : (v : ℕ) → v < q → ends_at v pairs ≡ occurrences v (spoke_ends z q ls)) where
  -- splitting off doesn't raise a degree
  pub ends_in : (Y : List Bool) → length Y ≡ q → count_by (λ p. has Y p.0) pairs + count_by (λ p. has Y p.1) pairs ≡ count_by (has Y) (spoke_ends z q ls)
  ends_in Y long =
      sym (pairs_ends_in Y pairs) ∙ nodes_agree (λ v. ends_at v pairs) (λ v. occurrences v (spoke_ends z q ls)) Y (λ v h. each v (omega (arith, has-below Y v h))) ∙ nodes_named (λ w. w) Y (spoke_ends z q ls)

  across_proper : (X : List Bool) (l : Line) → IsApart z q l → crosses X l ≡ true → IsProper q (across z q lz X)
  across_proper X l a crossed =
      let R = across z q lz X in
      let m = moved_line z q l in
      let over : crosses R m ≡ true = crosses-across z q lz X l a ∙ crossed in
      let long : length R ≡ q = length_of q (λ v. differ (has X z) (has X (cond (v == z) q v))) in
      let lt = moved_below z q l.tail lz a.tail a.tail_not in
      let lh = moved_below z q l.head lz a.head a.head_not in
      elim (cases_Bool (has R m.tail)) [
        | inl t ↦ is_proper R m.tail m.head long t lh (other_out (has R m.tail) (has R m.head) t over)
        | inr f ↦ is_proper R m.head m.tail long (other_in (has R m.tail) (has R m.head) f over) lt f
      ]

  -- a needed line is needed after the split
  pub still_needed : (c : ℕ) → IsEdgeConnected c q (others z q ls ++ lines_of (apart pairs)) → (l : Line) → IsApart z q l → IsNeeded (q + 1) c ls l → IsNeeded q c (others z q ls ++ lines_of (apart pairs)) (moved_line z q l)
  still_needed c conn l a need =
      let X = need.side in
      let R = across z q lz X in
      let proper = across_proper X l a need.crossed in
      record {
        side = R;
        tight = record {
          proper = proper;
          value = omega (
            arith,
            conn R proper,
            sum_by-append (λ k. weight (crosses R k)) (others z q ls) (lines_of (apart pairs)),
            degree-pairs R pairs,
            ends_in R proper.long,
            degree-across z q lz X ls fits,
            need.tight.value,
          );
        };
        crossed = crosses-across z q lz X l a ∙ need.crossed;
      }

  pub all_still_needed : (c : ℕ) → IsEdgeConnected c q (others z q ls ++ lines_of (apart pairs)) → All (IsNeeded (q + 1) c ls) ls → All (IsNeeded q c (others z q ls ++ lines_of (apart pairs))) (others z q ls)
  all_still_needed c conn needed =
      let far = chosen true ls (apart_marks z ls) in
      All-map (IsNeeded q c (others z q ls ++ lines_of (apart pairs))) (moved_line z q) far
      (All-both (IsApart z q) (IsNeeded (q + 1) c ls) (λ l. IsNeeded q c (others z q ls ++ lines_of (apart pairs)) (moved_line z q l)) (still_needed c conn) far (far_apart z q ls fits) (All-chosen (IsNeeded (q + 1) c ls) true ls (apart_marks z ls) needed))

-- the ends of spokes are nodes that are left
pub spoke_ends_below : (z q : ℕ) → z ≤ q → (ls : List Line) → All (Fits (q + 1)) ls → All (λ w. w < q) (spoke_ends z q ls)
spoke_ends_below z q lz ls fits =
    All-map (λ w. w < q) (λ l. moved z q (other_end z l)) (spokes z ls)
    (All-weaker (IsSpoke z q) (λ l. moved z q (other_end z l) < q) (λ l s. let e = other_is z q l s in moved_below z q (other_end z l) lz e.0 e.1) (spokes z ls) (near_touch z q ls fits))
