-- A cut tree is a certificate that meets its graph. No public clause cites it.
use Rattle.std.proofs.Common.{ℕ, ◌≡◌, ◌≢◌, ◌<◌, ◌≤◌, ◌^◌, List, [], ◌∷◌, Bool, true, false, length, None, All, sym, ◌∙◌, arith}
use Rattle.std.specs.Prelude.{slice_set, replicate}
use Rattle.std.proofs.lemmas.List.Elements.{All-nil, All-cons, All-head, All-tail}
use Rattle.std.proofs.lemmas.List.Sums.{count_by-le-length}
use Rattle.std.proofs.lemmas.List.{get_or-set_same, get_or-set_other, get_or-replicate, length-set, length-replicate}
use Rattle.graph_core.specs.Graph.{GraphValue, IsGraph, Fits}
use Rattle.graph_core.specs.Side.{has}
use Rattle.graph_core.specs.Lines.{differ, crosses}
use Rattle.problem_defs.specs.Ask.{misfit_of}
use Rattle.problem_defs.specs.CutTree.{tree_lines, IsLeastCut, IsCutTree}
use Rattle.problem_defs.specs.Few.{small as few}
use Rattle.problem_defs.specs.Meets.{Meets}
use Rattle.graph_core.specs.Pairs.{AreIn}
use Rattle.problem_defs.specs.declared.ask.Ask.TheVariants.{CutTree}
use Rattle.problem_defs.specs.declared.cert.Body.TheVariants.{Tree}

-- the side of one node
abbrev only : ℕ → ℕ → List Bool
only n u = slice_set (replicate n false) u true

only-long : (n u : ℕ) → length (only n u) ≡ n
only-long n u = length-set (replicate n false) u true ∙ length-replicate n false

has-only : (n u : ℕ) → u < n → has (only n u) u ≡ true
has-only n u lt = get_or-set_same (replicate n false) u true false (omega (arith, lt, length-replicate n false))

has-only-other : (n u v : ℕ) → v < n → v ≢ u → has (only n u) v ≡ false
has-only-other n u v lt apart = get_or-set_other (replicate n false) u v true false apart ∙ get_or-replicate n v false false lt

only-tells : (n u v : ℕ) → u < n → v < n → u ≢ v → differ (has (only n u) u) (has (only n u) v) ≡ true
only-tells n u v u_in v_in apart = rw (has-only n u u_in, has-only-other n u v v_in (λ same. apart (sym same)))

-- the side of one end tells the two ends apart, so no weight is more than the number of lines
weight-le : (g : GraphValue) (pairs : List (ℕ × ℕ × ℕ)) (u v w : ℕ) → u < length g.names → v < length g.names → u ≢ v → IsLeastCut g pairs u v w → w ≤ length g.lines
weight-le g pairs u v w u_in v_in apart cut =
    let n = length g.names in
    let le = cut.least (only n u) (only-long n u) (only-tells n u v u_in v_in apart) in
    omega (arith, le, count_by-le-length (crosses (only n u)) g.lines)

abbrev AreSmall : List (ℕ × ℕ × ℕ) → Type 0
AreSmall pairs = All (λ p. p.2 < 2 ^ 64) pairs

all_fit : (g : GraphValue) (all pairs : List (ℕ × ℕ × ℕ)) → IsGraph g → All (Fits (length g.names)) (tree_lines pairs) → All (λ p. IsLeastCut g all p.0 p.1 p.2) pairs → AreIn (length g.names) pairs × AreSmall pairs
all_fit g all [] graph fit cuts = (All-nil (λ p. (p.0 < length g.names) × (p.1 < length g.names)), All-nil (λ p. p.2 < 2 ^ 64))
all_fit g all (p ∷ pairs) graph fit cuts =
    let n = length g.names in
    let here = All-head (Fits n) (record { tail = p.0; head = p.1; fixed = false; cost = 1 }) (tree_lines pairs) fit in
    let cut = All-head (λ q. IsLeastCut g all q.0 q.1 q.2) p pairs cuts in
    let (inside, small) = all_fit g all pairs graph (All-tail (Fits n) (record { tail = p.0; head = p.1; fixed = false; cost = 1 }) (tree_lines pairs) fit) (All-tail (λ q. IsLeastCut g all q.0 q.1 q.2) p pairs cuts) in
    let le = weight-le g all p.0 p.1 p.2 here.tail here.head here.apart cut in (
      All-cons (λ q. (q.0 < n) × (q.1 < n)) p pairs (here.tail, here.head) inside,
      All-cons (λ q. q.2 < 2 ^ 64) p pairs (omega (arith, le, graph.makes.few, few)) small,
    )

pub tree-meets : (g : GraphValue) (pairs : List (ℕ × ℕ × ℕ)) → IsGraph g → misfit_of g CutTree ≡ None → IsCutTree g pairs → Meets g (record { ask = CutTree; body = Tree pairs })
tree-meets g pairs graph suits tree =
    let (inside, small) = all_fit g pairs pairs graph tree.tree.fit tree.cuts in
    record {
      shaped = record { k = tt; suits = suits; belongs = tt; in_range = inside; numbers_fit = small };
      object = tree.tree;
      dual = tree.cuts;
      value = tt;
    }
