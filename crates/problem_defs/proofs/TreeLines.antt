-- The pairs of a cut tree as lines.
use Rattle.std.specs.Prelude.{ℕ, zero, suc, ◌≡◌, ◌<◌, ◌&&◌, Bool, List, [], ◌∷◌, length, map, slice_index_or, count_by, All, refl}
use Rattle.std.proofs.Common.{◌∙◌, arith, subst}
use Rattle.std.proofs.lemmas.List.{length-map}
use Rattle.std.proofs.lemmas.List.Elements.{All-get_or, All-from_get_or}
use Rattle.graph_core.specs.Graph.{Fits, line_of}
use Rattle.graph_core.specs.Lines.{differ, crosses, within, degree, induced}
use Rattle.graph_core.specs.Side.{has}
use Rattle.graph_core.specs.declared.graph.Line.{Line}
use Rattle.graph_core.proofs.FamilyLaws.{count_by-map}
use Rattle.problem_defs.specs.CutTree.{tree_lines}

abbrev pub pair_line : ℕ × ℕ × ℕ → Line
pair_line p = line_of (p.0, p.1)

pub length-tree : (pairs : List (ℕ × ℕ × ℕ)) → length (tree_lines pairs) ≡ length pairs
length-tree pairs = length-map (map (λ p. (p.0, p.1)) pairs) line_of ∙ length-map pairs (λ p. (p.0, p.1))

pub tree-line : (pairs : List (ℕ × ℕ × ℕ)) (j : ℕ) (d : Line) (e : ℕ × ℕ × ℕ) → j < length pairs → slice_index_or (tree_lines pairs) j d ≡ pair_line (slice_index_or pairs j e)
tree-line [] j d e l = absurd (omega arith)
tree-line (p ∷ pairs) zero d e l = refl
tree-line (p ∷ pairs) (suc j) d e l = tree-line pairs j d e (omega arith)

pub induced-tree : (X : List Bool) (pairs : List (ℕ × ℕ × ℕ)) → induced X (tree_lines pairs) ≡ count_by (λ p. has X p.0 && has X p.1) pairs
induced-tree X pairs = count_by-map (within X) line_of (map (λ p. (p.0, p.1)) pairs) ∙ count_by-map (λ q. within X (line_of q)) (λ p. (p.0, p.1)) pairs

pub degree-tree : (X : List Bool) (pairs : List (ℕ × ℕ × ℕ)) → degree X (tree_lines pairs) ≡ count_by (λ p. differ (has X p.0) (has X p.1)) pairs
degree-tree X pairs = count_by-map (crosses X) line_of (map (λ p. (p.0, p.1)) pairs) ∙ count_by-map (λ q. crosses X (line_of q)) (λ p. (p.0, p.1)) pairs

-- the nodes of pairs that fit are nodes
pub nodes-tree : (n : ℕ) (pairs : List (ℕ × ℕ × ℕ)) → All (Fits n) (tree_lines pairs) → All (λ p. (p.0 < n) × (p.1 < n)) pairs
nodes-tree n pairs fit = All-from_get_or (λ p. (p.0 < n) × (p.1 < n)) pairs (0, 0, 0) (λ j l.
    let f = subst (Fits n) (tree-line pairs j (line_of (0, 0)) (0, 0, 0) l) (All-get_or (Fits n) (tree_lines pairs) j (line_of (0, 0)) (omega (arith, length-tree pairs)) fit) in
    (f.tail, f.head))
