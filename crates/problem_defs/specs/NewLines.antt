-- What the certificates of both augmentations need of the pairs and the number of members. No public clause cites it.
use Rattle.std.proofs.Common.{ℕ, ◌*◌, ◌<◌, ◌≤◌, ◌^◌, List, [], ◌∷◌, All, arith}
use Rattle.std.proofs.Math.Nat.{mul-le-mul_right}
use Rattle.std.proofs.lemmas.List.Elements.{All-nil, All-cons, All-head, All-tail}
use Rattle.graph_core.specs.Limits.{most_k, node_room}
use Rattle.graph_core.specs.Graph.{Fits, line_of, lines_of}
use Rattle.problem_defs.specs.Shaped.{AreNodes}

-- pairs that fit as lines are pairs of nodes
pub new-nodes : (n : ℕ) (pairs : List (ℕ × ℕ)) → All (Fits n) (lines_of pairs) → AreNodes n pairs
new-nodes n [] fit = All-nil (λ p. (p.0 < n) × (p.1 < n))
new-nodes n (p ∷ pairs) fit =
    let here = All-head (Fits n) (line_of p) (lines_of pairs) fit in
    All-cons (λ q. (q.0 < n) × (q.1 < n)) p pairs (here.tail, here.head) (new-nodes n pairs (All-tail (Fits n) (line_of p) (lines_of pairs) fit))

-- what so many members ask for fits a number
pub few_new : (k m : ℕ) → k ≤ most_k → m ≤ node_room → k * m < 2 ^ 64
few_new k m low many =
    let first : k * m ≤ most_k * m = mul-le-mul_right m low in
    omega (arith, first, many)
