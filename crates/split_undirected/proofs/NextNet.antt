-- The network of a star at the start, and after copies of a pair are split off.
use Rattle.std.specs.Prelude.{ℕ, ◌≡◌, ◌+◌, ◌*◌, ◌%◌, ◌<◌, ◌≤◌, ◌==◌, Bool, true, false, not, ◌&&◌, cond, List, [], ◌∷◌, ◌++◌, length, replicate, sum, slice_index, All}
use Rattle.std.proofs.Common.{sym, ap, ◌∙◌, inl, inr, arith}
use Rattle.std.proofs.lemmas.Bool.{cases_Bool, and_parts, eq-eqb, not-true}
use Rattle.std.proofs.lemmas.List.{length-append}
use Rattle.std.proofs.lemmas.List.Elements.{All-nil, All-cons, All-append, All-map, All-replicate, All-filter, filter_passes}
use Rattle.std.proofs.lemmas.List.Sums.{sum_by-cons, sum_by-append}
use Rattle.graph_core.specs.Side.{has, sum_over}
use Rattle.graph_core.specs.Graph.{Fits, line_of, lines_of}
use Rattle.graph_core.specs.Lines.{differ, crosses, degree}
use Rattle.graph_core.specs.declared.graph.Line.{Line}
use Rattle.graph_core.specs.declared.graph.Kind.TheVariants.{Undirected}
use Rattle.graph_core.proofs.Counting.{weight, All-both}
use Rattle.cut_fn.specs.Covered.{IsCovered}
use Rattle.flow_cuts.specs.declared.network.Cap.{Cap}
use Rattle.flow_cuts.specs.Network.{leaving, capacity}
use Rattle.flow_cuts.specs.GraphArcs.{arcs_of}
use Rattle.flow_cuts.proofs.NewNodes.{length-edge_arcs, edges_are_arcs}
use Rattle.flow_cuts.proofs.ArcLaws.{capacity-arcs_of, both_across}
use Rattle.split_undirected.specs.Most.{MaySplit}
use Rattle.flow_cuts.specs.NewNode.{value_with}
use Rattle.split_undirected.specs.Network.{both_ways, IsStarNet}
use Rattle.split_undirected.proofs.SplitLaws.{copies, ends_at-copies, across-copies, within-copies, degree-apart, nodes_after, value_after}
use Rattle.graph_core.proofs.WeightLaws.{nodes_all}
use Rattle.graph_core.proofs.SideLaws.{has-whole}
use Rattle.graph_core.specs.Pairs.{apart}
use Rattle.split_undirected.specs.Split.{ends_at, lines_after}
use Rattle.split_undirected.specs.Rows.{star_value}

pub net_start : {n k : ℕ} (ls : List Line) (counts : List ℕ) → length counts ≡ n → n ≤ 4096 → 2 * length ls + sum counts ≤ 131072 → All (Fits n) ls → IsCovered n k (star_value ls (slice_index counts)) → IsStarNet n k ls (arcs_of Undirected ls) counts
net_start {n} {k} ls counts long nodes few fit covered = record {
  long = long;
  nodes = nodes;
  few = omega (arith, length-edge_arcs ls);
  ends = (edges_are_arcs ls fit (omega arith)).ends;
  fit = fit;
  same = λ X. capacity-arcs_of Undirected X ls;
  covered = covered;
}

times_weight : (q : ℕ) (b : Bool) → q * weight b ≡ cond b q 0
times_weight q true = omega arith
times_weight q false = omega arith

-- the lines that copies of a pair add fit the graph
fits_copies : (n u v q : ℕ) → u < n → v < n → All (Fits n) (lines_of (apart (copies u v q)))
fits_copies n u v q lu lv =
    let P : ℕ × ℕ → Type 0 = λ p. (p.0 < n) × (p.1 < n) in
    let Q : ℕ × ℕ → Type 0 = λ p. not (p.0 == p.1) ≡ true in
    All-map (Fits n) line_of (apart (copies u v q))
    (All-both P Q (λ p. Fits n (line_of p))
    (λ p b d. record { tail = b.0; head = b.1; apart = λ e. absurd (cc (not-true (p.0 == p.1) d, eq-eqb p.0 p.1 e)) })
    (apart (copies u v q))
    (All-filter (λ p. not (p.0 == p.1)) P (copies u v q) (All-replicate P q (u, v) (lu, lv)))
    (filter_passes (λ (p : ℕ × ℕ). not (p.0 == p.1)) (copies u v q)))

module _ {n k : ℕ} {ls : List Line} {arcs : List Cap} {counts : List ℕ} (net : IsStarNet n k ls arcs counts) (u v q : ℕ) (lu : u < n) (lv : v < n)
    (left : List ℕ) (long : length left ≡ length counts) (lowered : (x : ℕ) → slice_index left x + (cond (u == x) q 0 + cond (v == x) q 0) ≡ slice_index counts x) where
  pub ends_lowered : (x : ℕ) → slice_index left x + ends_at x (copies u v q) ≡ slice_index counts x
  ends_lowered x = omega (arith, lowered x, ends_at-copies u v q x, times_weight q (u == x), times_weight q (v == x))

  sum_next : sum left + 2 * q ≡ sum counts
  sum_next =
      let W = replicate (length counts) true in
      let wu : has W u ≡ true = has-whole (length counts) u (omega (arith, net.long)) in
      let wv : has W v ≡ true = has-whole (length counts) v (omega (arith, net.long)) in
      let two = nodes_after W (slice_index counts) (slice_index left) (copies u v q) (λ x _. ends_lowered x) in
      let none : q * weight (differ (has W u) (has W v)) ≡ 0 = rw (wu, wv) (omega arith) in
      let all : q * weight (has W u && has W v) ≡ q = rw (wu, wv) (omega arith) in
      let same : sum_over W (slice_index left) ≡ sum left = ap (λ m. sum_over (replicate m true) (slice_index left)) (sym long) ∙ nodes_all left in
      omega (arith, across-copies u v q W, within-copies u v q W, nodes_all counts)

  value_next : (X : List Bool) → star_value (lines_after ls (copies u v q)) (slice_index left) X + 2 * (q * weight (has X u && has X v)) ≡ star_value ls (slice_index counts) X
  value_next X = omega (arith, value_after ls (slice_index counts) (slice_index left) (copies u v q) X (λ x _. ends_lowered x), within-copies u v q X)

  capacity_next : (X : List Bool) → capacity X (arcs ++ both_ways u v q) ≡ degree X (lines_after ls (copies u v q))
  capacity_next X =
      omega (
        arith,
        sum_by-append (leaving X) arcs (both_ways u v q),
        sum_by-cons (leaving X) (record { tail = u; head = v; cap = q }) (record { tail = v; head = u; cap = q } ∷ []),
        sum_by-cons (leaving X) (record { tail = v; head = u; cap = q }) [],
        both_across (has X u) (has X v) q,
        net.same X,
        sum_by-append (λ l. weight (crosses X l)) ls (lines_of (apart (copies u v q))),
        degree-apart X (copies u v q),
        across-copies u v q X,
      )

  -- the value of a side in the network falls by 2 q where it holds u and v
  pub net_falls : (X : List Bool) → value_with (arcs ++ both_ways u v q) left X + 2 * (q * weight (has X u && has X v)) ≡ value_with arcs counts X
  net_falls X = omega (arith, capacity_next X, value_next X, net.same X)

  pub net_next : 1 ≤ q → MaySplit n k (value_with arcs counts) (slice_index counts) u v q → IsStarNet n k (lines_after ls (copies u v q)) (arcs ++ both_ways u v q) left
  net_next some may = record {
    long = long ∙ net.long;
    nodes = net.nodes;
    few = omega (arith, net.few, sum_next, length-append arcs (both_ways u v q));
    ends = All-append P arcs (both_ways u v q) net.ends
        (All-cons P (record { tail = u; head = v; cap = q }) (record { tail = v; head = u; cap = q } ∷ []) (lu, lv) (All-cons P (record { tail = v; head = u; cap = q }) [] (lv, lu) (All-nil P)));
    fit = All-append (Fits n) ls (lines_of (apart (copies u v q))) net.fit (fits_copies n u v q lu lv);
    same = capacity_next;
    covered = λ X proper.
        elim (cases_Bool (has X u && has X v)) [
          | inl both ↦ (let (xu, xv) = and_parts (has X u) (has X v) both in
              let all : q * weight (has X u && has X v) ≡ q = rw (xu, xv) (omega arith) in
              omega (arith, value_next X, may.covered X proper xu xv, net.same X))
          | inr not_both ↦ (let none : q * weight (has X u && has X v) ≡ 0 = rw not_both (omega arith) in omega (arith, value_next X, net.covered X proper))
        ];
  }
    where
      P : Cap → Type 0
      P a = (a.tail < n) × (a.head < n)

  pub even_next : sum counts % 2 ≡ 0 → sum left % 2 ≡ 0
  even_next even = omega (arith, sum_next)
