-- Pairs that split a star off: how many they are, and the graph with them where none has equal nodes.
use Rattle.std.specs.Prelude.{ℕ, ◌≡◌, ◌≢◌, ◌*◌, ◌<◌, ◌==◌, true, List, ◌++◌, length, replicate, count_by, slice_index, sum, All}
use Rattle.std.proofs.Common.{ap, arith}
use Rattle.std.proofs.lemmas.List.Elements.{All-weaker}
use Rattle.graph_core.specs.Side.{has, sum_over}
use Rattle.cut_fn.specs.declared.stars.Star.{Star}
use Rattle.graph_core.specs.Graph.{lines_of}
use Rattle.graph_core.specs.declared.graph.Line.{Line}
use Rattle.graph_core.proofs.Counting.{weight, sum_by-ones}
use Rattle.graph_core.proofs.HeadLaws.{nodes_add, nodes_named}
use Rattle.graph_core.proofs.WeightLaws.{nodes_agree, nodes_all}
use Rattle.graph_core.proofs.SideLaws.{has-whole, whole-below}
use Rattle.graph_core.proofs.PairLaws.{apart_all}
use Rattle.split_undirected.specs.Split.{ends_at, lines_after, IsSplit}

-- half as many as the star has edges
pub half_as_many : {k : ℕ} (star : Star) (pairs : List (ℕ × ℕ)) → IsSplit k star pairs → 2 * length pairs ≡ sum star.count
half_as_many star pairs split =
    let n = length star.graph.names in
    let w = slice_index star.count in
    let W = replicate n true in
    let first : count_by (λ p. has W p.0) pairs ≡ length pairs = sum_by-ones (λ p. weight (has W p.0)) pairs (All-weaker (λ p. (p.0 < n) × (p.1 < n)) (λ p. weight (has W p.0) ≡ 1) (λ p b. ap weight (has-whole n p.0 b.0)) pairs split.nodes) in
    let second : count_by (λ p. has W p.1) pairs ≡ length pairs = sum_by-ones (λ p. weight (has W p.1)) pairs (All-weaker (λ p. (p.0 < n) × (p.1 < n)) (λ p. weight (has W p.1) ≡ 1) (λ p b. ap weight (has-whole n p.1 b.1)) pairs split.nodes) in
    omega (
      arith,
      nodes_agree (λ v. ends_at v pairs) w W (λ v h. split.each v (whole-below n v h)),
      nodes_add (λ v. count_by (λ p. p.0 == v) pairs) (λ v. count_by (λ p. p.1 == v) pairs) W,
      nodes_named (λ (p : ℕ × ℕ). p.0) W pairs,
      nodes_named (λ (p : ℕ × ℕ). p.1) W pairs,
      ap (λ m. sum_over (replicate m true) w) star.long,
      nodes_all star.count,
    )

-- pairs of different nodes are all lines of the graph afterwards
pub lines_after-all : (ls : List Line) (pairs : List (ℕ × ℕ)) → All (λ p. p.0 ≢ p.1) pairs → lines_after ls pairs ≡ ls ++ lines_of pairs
lines_after-all ls pairs different = ap (λ ps. ls ++ lines_of ps) (apart_all pairs different)
