-- Lists of branches: reads, one more behind, and the lines of the tree.
use Rattle.std.specs.Prelude.{ℕ, zero, suc, ◌≡◌, ◌+◌, ◌<◌, List, [], ◌∷◌, ◌++◌, length, map, All, refl}
use Rattle.std.proofs.Common.{ap, arith, length-append}
use Rattle.std.proofs.lemmas.List.Elements.{All-map, All-from_get_or}
use Rattle.graph_core.specs.Graph.{line_of}
use Rattle.graph_core.specs.declared.graph.Line.{Line}
use Rattle.problem_defs.specs.CutTree.{tree_lines}
use Rattle.cut_trees.specs.declared.branch.Branch.{Branch}
use Rattle.cut_trees.specs.Branch.{no_branch, at, pair_of}

-- a branch as a line
abbrev pub line_at : Branch → Line
line_at b = line_of (b.first, b.second)

pub tree_lines-branches : (bs : List Branch) → tree_lines (map pair_of bs) ≡ map line_at bs
tree_lines-branches [] = refl
tree_lines-branches (b ∷ bs) = ap (λ ls. line_at b ∷ ls) (tree_lines-branches bs)

-- what holds at each place holds of each image
pub All-branches : {A : Type 0} (P : A → Type 0) (f : Branch → A) (bs : List Branch) → ((j : ℕ) → j < length bs → P (f (at bs j))) → All P (map f bs)
All-branches P f bs h = All-map P f bs (All-from_get_or (λ b. P (f b)) bs no_branch h)

pub at-old : (bs : List Branch) (x : Branch) (j : ℕ) → j < length bs → at (bs ++ x ∷ []) j ≡ at bs j
at-old [] x j l = absurd (omega arith)
at-old (b ∷ bs) x zero l = refl
at-old (b ∷ bs) x (suc j) l = at-old bs x j (omega arith)

pub at-new : (bs : List Branch) (x : Branch) → at (bs ++ x ∷ []) (length bs) ≡ x
at-new [] x = refl
at-new (b ∷ bs) x = at-new bs x

pub length-pushed : (bs : List Branch) (x : Branch) → length (bs ++ x ∷ []) ≡ length bs + 1
length-pushed bs x = omega (arith, length-append bs (x ∷ []))
