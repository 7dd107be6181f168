-- The star of a node that is taken out is a star, and may be split off.
use Rattle.std.specs.Prelude.{ℕ, ◌≡◌, ◌≢◌, ◌+◌, ◌*◌, ◌<◌, ◌≤◌, ◌==◌, true, false, not, List, [], ◌∷◌, ◌++◌, length, take, sum, count_by, All, AllPairs}
use Rattle.std.proofs.Common.{sym, ap, ◌∙◌, arith, subst, get_or-take, inl, inr}
use Rattle.std.proofs.lemmas.Bool.{cases_eq, eq-eqb, ne_eqb}
use Rattle.std.proofs.lemmas.List.{length-append, length-take-le, length-map, get_or_append_left}
use Rattle.std.proofs.lemmas.List.Sums.{length-filter, count_by-le-length}
use Rattle.std.proofs.lemmas.List.Elements.{All-nil, All-cons, All-head, All-tail, All-map, All-weaker}
use Rattle.graph_core.specs.Connected.{IsEdgeConnected}
use Rattle.graph_core.specs.Graph.{GraphValue, Fits, MakesGraph, IsGraph, line_of, lines_of, no_numbers}
use Rattle.graph_core.proofs.GraphLaws.{all-priced, AreNumbers-none}
use Rattle.graph_core.specs.Picked.{occurrences}
use Rattle.graph_core.specs.declared.graph.Kind.TheVariants.{Undirected}
use Rattle.graph_core.specs.declared.graph.Line.{Line}
use Rattle.graph_core.specs.Pairs.{apart}
use Rattle.cut_fn.specs.declared.stars.Star.{Star}
use Rattle.split_undirected.specs.Split.{ends_at, CanBeSplit, IsSplit}
use Rattle.split_undirected.proofs.PairLaws.{half_as_many}
use Rattle.nw_orientation.specs.Chosen.{chosen}
use Rattle.nw_orientation.specs.Moved.{moved, moved_line, touches, other_end, apart_marks, others, spokes, spoke_ends}
use Rattle.nw_orientation.specs.Needed.{IsLean}
use Rattle.nw_orientation.specs.SplitOff.{IsStarOf, IsSplitOff}
use Rattle.nw_orientation.proofs.ChosenLaws.{length-chosen}
use Rattle.nw_orientation.proofs.MovedLaws.{IsApart, far_apart, Fits-moved}
use Rattle.nw_orientation.proofs.SplitLaws.{covered, count_ends, sum-ends, length-spokes, all_still_needed, spoke_ends_below}

pub length-apart : (pairs : List (ℕ × ℕ)) → length (apart pairs) ≤ length pairs
length-apart pairs = omega (arith, length-filter (λ p. not (p.0 == p.1)) pairs, count_by-le-length (λ p. not (p.0 == p.1)) pairs)

-- the first q of distinct names
AllPairs-take : {A : Type 0} (R : A → A → Type 0) (q : ℕ) (xs : List A) → q ≤ length xs → AllPairs R xs → AllPairs R (take q xs)
AllPairs-take R q xs l h = λ i j d a b.
    let lj : j < q = omega (arith, length-take-le q xs l) in
    rw (get_or-take q xs i d (omega arith), get_or-take q xs j d lj) (h i j d a (omega arith))

pub makes_star : (g : GraphValue) (q : ℕ) (ls : List Line) → IsGraph g → length g.names ≡ q + 1 → 1 ≤ q → All (Fits q) ls → All (λ l. l.fixed ≡ false) ls → All (λ l. l.cost ≡ 1) ls → length ls ≤ 65536
    → MakesGraph (record { kind = Undirected; names = take q g.names; lines = ls; numbers = no_numbers (length (take q g.names)) })
makes_star g q ls ok size some fits free ones few =
    let long : length (take q g.names) ≡ q = length-take-le q g.names (omega arith) in
    record {
      some = omega arith;
      nodes = omega (arith, ok.makes.nodes);
      few = few;
      distinct = AllPairs-take (λ a b. a ≢ b) q g.names (omega arith) ok.makes.distinct;
      ends = rw long fits;
      free = λ _. free;
      priced = all-priced Undirected ls ones;
      numbered = AreNumbers-none (length (take q g.names));
    }

pub far_fits : (z q : ℕ) → z ≤ q → (ls : List Line) → All (Fits (q + 1)) ls → All (Fits q) (others z q ls)
far_fits z q lz ls fits = All-map (Fits q) (moved_line z q) (chosen true ls (apart_marks z ls)) (All-weaker (IsApart z q) (λ l. Fits q (moved_line z q l)) (Fits-moved z q lz) (chosen true ls (apart_marks z ls)) (far_apart z q ls fits))

pub length-both_kinds : (z q : ℕ) (ls : List Line) → length ls ≡ length (others z q ls) + length (spokes z ls)
length-both_kinds z q ls = omega (arith, length-chosen ls (apart_marks z ls) (length-map ls (λ l. not (touches z l))), length-map (chosen true ls (apart_marks z ls)) (moved_line z q))

module _ (k z q : ℕ) (some : 1 ≤ k) (lz : z ≤ q) (ls : List Line) (fits : All (Fits (q + 1)) ls) (few : length ls ≤ 65536) (lean : IsLean (q + 1) (2 * k) ls) (deg : count_by (touches z) ls ≡ 2 * k)
    (star : Star) (is : IsStarOf z q (chosen true ls (apart_marks z ls)) (spokes z ls) star) where
  sum-star : sum star.count ≡ 2 * k
  sum-star =
      let low = spoke_ends_below z q lz ls fits in
      let long = is.counts.long in
      omega (
        arith,
        sum-ends star.count (spoke_ends z q ls) (λ v l. is.counts.each v (omega arith)) (subst (λ n. All (λ w. w < n) (spoke_ends z q ls)) (sym long) low),
        length-map (spokes z ls) (λ l. moved z q (other_end z l)),
        length-spokes z ls,
        deg,
      )

  pub can_be_split : CanBeSplit (2 * k) star
  can_be_split = record {
    two = omega arith;
    even = rw sum-star (omega arith);
    covered = rw (is.nodes, is.lines) (λ X p.
        rw (count_ends star.count (spoke_ends z q ls) X (p.long ∙ sym is.counts.long) (λ v l. is.counts.each v (omega (arith, is.counts.long))))
        (covered z q lz (2 * k) ls fits lean.connected X p));
    room = omega (arith, sum-star, ap length is.lines, length-both_kinds z q ls, length-spokes z ls, deg, few);
  }

  module _ (pairs : List (ℕ × ℕ)) (split : IsSplit (2 * k) star pairs) where
    low_pairs : All (λ p. (p.0 < q) × (p.1 < q)) pairs
    low_pairs = rw is.nodes at split.nodes

    each_time : (v : ℕ) → v < q → ends_at v pairs ≡ occurrences v (spoke_ends z q ls)
    each_time v lv = split.each v (omega (arith, is.nodes)) ∙ is.counts.each v lv

    connected_after : IsEdgeConnected (2 * k) q (others z q ls ++ lines_of (apart pairs))
    connected_after = rw (is.nodes, is.lines) at split.connected

    -- there are half as many pairs as lines of z
    many : length pairs ≡ k
    many = omega (arith, half_as_many star pairs split, sum-star)

    pub room_after : length star.graph.lines + length (apart pairs) ≤ 65536
    room_after = omega (arith, many, length-apart pairs, ap length is.lines, length-both_kinds z q ls, length-spokes z ls, deg, few)

    pub is_split_off : (g : GraphValue) (m : ℕ) → g.kind ≡ Undirected → length g.names ≡ q → g.lines ≡ others z q ls ++ lines_of (apart pairs) → m ≡ length (chosen true ls (apart_marks z ls)) → IsSplitOff k q ls z pairs g m
    is_split_off g m kind nodes lines old =
        let needed = all_still_needed z q lz ls fits pairs each_time (2 * k) connected_after lean.needed in
        record {
          node = lz;
          low = low_pairs;
          each = each_time;
          many = many;
          kind = kind;
          nodes = nodes;
          lines = lines;
          old = old ∙ sym (length-map (chosen true ls (apart_marks z ls)) (moved_line z q));
          connected = subst (IsEdgeConnected (2 * k) q) (sym lines) connected_after;
          needed = λ i d li l.
              let there : i < length (others z q ls) = omega (arith, old, length-map (chosen true ls (apart_marks z ls)) (moved_line z q)) in
              rw (lines, get_or_append_left (others z q ls) (lines_of (apart pairs)) d i there) (needed i d there);
          fewer = omega (arith, many, length-apart pairs, ap length lines, length-append (others z q ls) (lines_of (apart pairs)), length-map (apart pairs) line_of, length-both_kinds z q ls, length-spokes z ls, deg);
        }

pub fits_apart : (n : ℕ) (pairs : List (ℕ × ℕ)) → All (λ p. (p.0 < n) × (p.1 < n)) pairs → All (λ p. Fits n (line_of p)) (apart pairs)
fits_apart n [] low = All-nil (λ p. Fits n (line_of p))
fits_apart n (p ∷ pairs) low =
    let later = fits_apart n pairs (All-tail (λ r. (r.0 < n) × (r.1 < n)) p pairs low) in
    let here = All-head (λ r. (r.0 < n) × (r.1 < n)) p pairs low in
    elim (cases_eq p.0 p.1) [
      | inl same ↦ rw (eq-eqb p.0 p.1 same) later
      | inr other ↦ rw (ne_eqb p.0 p.1 other) (All-cons (λ r. Fits n (line_of r)) p (apart pairs) (record { tail = here.0; head = here.1; apart = other }) later)
    ]
