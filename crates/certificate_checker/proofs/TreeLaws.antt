-- When pairs are a spanning tree, and what the side of a pair of a tree is.
use Rattle.std.specs.Prelude.{ℕ, zero, suc, ◌≡◌, ◌+◌, ◌<◌, Bool, true, false, ◌&&◌, List, [], ◌∷◌, length, map, remove, All, refl}
use Rattle.std.proofs.Common.{sym, ap, ◌∙◌, arith, inl, inr, subst}
use Rattle.std.proofs.lemmas.Bool.{cases_eq, false_from_ne_true}
use Rattle.std.proofs.lemmas.List.Elements.{All-map, All-weaker, All-get_or, All-from_get_or}
use Rattle.std.proofs.lemmas.List.Sums.{sum_by-remove}
use Rattle.graph_core.specs.Side.{has}
use Rattle.graph_core.specs.Lines.{differ, degree}
use Rattle.graph_core.specs.Graph.{GraphValue, Fits, line_of}
use Rattle.graph_core.specs.Labels.{Adds}
use Rattle.graph_core.proofs.CutLaws.{differ_same}
use Rattle.graph_core.proofs.SideLaws.{contains-has}
use Rattle.graph_core.proofs.SplitLaws as split
use Rattle.graph_core.proofs.TreeLaws.{removed, one_side}
use Rattle.graph_core.specs.declared.graph.Line.{Line}
use Rattle.graph_core.proofs.Counting.{weight, count_by-fails}
use Rattle.graph_core.proofs.FamilyLaws.{size-nonempty}
use Rattle.problem_defs.specs.CutTree.{tree_lines, IsSpanningTree, IsLeastCut}
use Rattle.problem_defs.proofs.TreeLines.{pair_line, length-tree, tree-line, induced-tree, degree-tree}
use Rattle.graph_core.specs.Pairs.{pair_at}
use Rattle.certificate_checker.specs.TreeSides.{AreUncrossed, IsReach}
use Rattle.flow_cuts.specs.NodeCuts.{NoneIsLess}

-- X is a side of pair j: it holds the first node and misses the second, and no other pair crosses it
pub record IsSideOf (n : ℕ) (pairs : List (ℕ × ℕ × ℕ)) (j : ℕ) (X : List Bool) : Type 0 where
  pub long : length X ≡ n
  pub holds : has X (pair_at pairs j).0 ≡ true
  pub misses : has X (pair_at pairs j).1 ≡ false
  pub uncrossed : AreUncrossed X (remove pairs j)

lines-remove : (pairs : List (ℕ × ℕ × ℕ)) (j : ℕ) → remove (tree_lines pairs) j ≡ tree_lines (remove pairs j)
lines-remove [] zero = refl
lines-remove [] (suc j) = refl
lines-remove (p ∷ pairs) zero = refl
lines-remove (p ∷ pairs) (suc j) = ap (λ ls. line_of (p.0, p.1) ∷ ls) (lines-remove pairs j)

side-of_line : (n : ℕ) (pairs : List (ℕ × ℕ × ℕ)) (j : ℕ) (X : List Bool) → j < length pairs → IsSideOf n pairs j X → split.IsSideOf n (tree_lines pairs) j X
side-of_line n pairs j X l s = record {
  long = s.long;
  holds = λ d. ap (λ (k : Line). has X k.tail) (tree-line pairs j d (0, 0, 0) l) ∙ s.holds;
  misses = λ d. ap (λ (k : Line). has X k.head) (tree-line pairs j d (0, 0, 0) l) ∙ s.misses;
  uncrossed = rw lines-remove (All-map (λ k. has X k.tail ≡ has X k.head) line_of (map (λ p. (p.0, p.1)) (remove pairs j)) (All-map (λ q. has X q.0 ≡ has X q.1) (λ p. (p.0, p.1)) (remove pairs j) s.uncrossed));
}

-- each pair has a side, and there are as many as a tree has
pub tree-made : (g : GraphValue) (pairs : List (ℕ × ℕ × ℕ)) → All (λ p. (p.0 < length g.names) × (p.1 < length g.names)) pairs
    → ((j : ℕ) → j < length pairs → (X : List Bool) × IsSideOf (length g.names) pairs j X) → length pairs + 1 ≡ length g.names → IsSpanningTree g pairs
tree-made g pairs nodes sides many = record {
  fit = All-map (Fits (length g.names)) line_of (map (λ p. (p.0, p.1)) pairs) (All-map (λ q. Fits (length g.names) (line_of q)) (λ p. (p.0, p.1)) pairs
      (All-from_get_or (λ p. Fits (length g.names) (line_of (p.0, p.1))) pairs (0, 0, 0) (λ j l.
      let (X, s) = sides j l in
      let both = nodes j (0, 0, 0) l in
      record { tail = both.0; head = both.1; apart = λ e. let a = ap (has X) e in let h = s.holds in let m = s.misses in absurd cc })));
  acyclic = λ X some.
      split.few_within (tree_lines pairs) (λ j l.
      let within : j < length pairs = omega (arith, length-tree pairs) in
      let (Z, s) = sides j within in
      (Z, side-of_line (length g.names) pairs j Z within s)) X some.long (size-nonempty X some.some_in);
  many = many;
}

-- a pair whose second node its first one reaches by the others closes a circuit
pub not-tree : (g : GraphValue) (pairs : List (ℕ × ℕ × ℕ)) (j : ℕ) (X : List Bool) → j < length pairs → IsReach (length g.names) pairs j X → has X (pair_at pairs j).1 ≡ true → ¬ IsSpanningTree g pairs
not-tree g pairs j X l r in_second tree =
    let both : (has X (pair_at pairs j).0 && has X (pair_at pairs j).1) ≡ true = (λ z. r.holds z && in_second z) in
    let all = sum_by-remove (λ (p : ℕ × ℕ × ℕ). weight (has X p.0 && has X p.1)) pairs j (0, 0, 0) l in
    let few = tree.acyclic X (record { long = r.long; some_in = contains-has X (pair_at pairs j).0 r.holds }) in
    let paid = r.paid in
    omega (arith, ap weight both, induced-tree X pairs)

pub reached-side : (n : ℕ) (pairs : List (ℕ × ℕ × ℕ)) (j : ℕ) (X : List Bool) → IsReach n pairs j X → has X (pair_at pairs j).1 ≡ false → IsSideOf n pairs j X
reached-side n pairs j X r out = record { long = r.long; holds = r.holds; misses = out; uncrossed = r.uncrossed }

-- the sides of the pairs before j, and that of j
pub sides-more : (n : ℕ) (pairs : List (ℕ × ℕ × ℕ)) (j : ℕ) (X : List Bool) → ((k : ℕ) → k < j → (Z : List Bool) × IsSideOf n pairs k Z) → IsSideOf n pairs j X → (k : ℕ) → k < j + 1 → (Z : List Bool) × IsSideOf n pairs k Z
sides-more n pairs j X sides s k l = elim (cases_eq k j) [
  | inl e ↦ (X, subst (λ i. IsSideOf n pairs i X) (sym e) s)
  | inr other ↦ sides k (omega arith)
]

-- what the first node reaches by the others misses the second in a tree
pub tree-side : (g : GraphValue) (pairs : List (ℕ × ℕ × ℕ)) → IsSpanningTree g pairs → (j : ℕ) (X : List Bool) → j < length pairs → IsReach (length g.names) pairs j X → IsSideOf (length g.names) pairs j X
tree-side g pairs tree j X l r = reached-side (length g.names) pairs j X r (false_from_ne_true (has X (pair_at pairs j).1) (λ in_second. not-tree g pairs j X l r in_second tree))

one-crosses : (n : ℕ) (pairs : List (ℕ × ℕ × ℕ)) (j : ℕ) (X : List Bool) → j < length pairs → IsSideOf n pairs j X → degree X (tree_lines pairs) ≡ 1
one-crosses n pairs j X l s =
    let here : differ (has X (pair_at pairs j).0) (has X (pair_at pairs j).1) ≡ true = (λ z. differ (s.holds z) (s.misses z)) in
    omega (
      arith,
      ap weight here,
      degree-tree X pairs,
      count_by-fails (λ p. differ (has X p.0) (has X p.1)) (remove pairs j) (All-weaker (λ p. has X p.0 ≡ has X p.1) (λ p. differ (has X p.0) (has X p.1) ≡ false) (λ p. differ_same (has X p.0) (has X p.1)) (remove pairs j) s.uncrossed),
      sum_by-remove (λ (p : ℕ × ℕ × ℕ). weight (differ (has X p.0) (has X p.1))) pairs j (0, 0, 0) l,
    )

-- the one side that pair j alone crosses
one-side : (g : GraphValue) (pairs : List (ℕ × ℕ × ℕ)) → IsSpanningTree g pairs → (j : ℕ) (S X : List Bool) → j < length pairs → IsSideOf (length g.names) pairs j S → length X ≡ length g.names
    → has X (pair_at pairs j).0 ≡ true → has X (pair_at pairs j).1 ≡ false → degree X (tree_lines pairs) ≡ 1 → X ≡ S
one-side g pairs tree j S X l s e holds misses one =
    let ls = tree_lines pairs in
    let k = pair_line (pair_at pairs j) in
    let lj : j < length ls = omega (arith, length-tree pairs) in
    let is = tree-line pairs j k (0, 0, 0) l in
    one_side ls tree.fit tree.acyclic (omega (arith, length-tree pairs, tree.many)) (remove ls j) k (subst (Fits (length g.names)) is (All-get_or (Fits (length g.names)) ls j k lj tree.fit))
    (subst (λ h. Adds (remove ls j) h ls) is (removed ls j k lj)) X S e s.long holds s.holds misses s.misses one (one-crosses (length g.names) pairs j S l s)

-- a pair of a tree is a least cut if its side has its weight and no other side between its nodes less
pub right-pair : (g : GraphValue) (pairs : List (ℕ × ℕ × ℕ)) → IsSpanningTree g pairs → (j : ℕ) (S : List Bool) (w : ℕ) → j < length pairs → IsReach (length g.names) pairs j S → degree S g.lines ≡ w → NoneIsLess (length g.names) g.lines (pair_at pairs j).0 (pair_at pairs j).1 w
    → IsLeastCut g pairs (pair_at pairs j).0 (pair_at pairs j).1 w
right-pair g pairs tree j S w l r is least = record {
  weight = λ X e holds misses one. ap (λ Y. degree Y g.lines) (one-side g pairs tree j S X l (tree-side g pairs tree j S l r) e holds misses one) ∙ is;
  least = least;
}

pub pair-weight : (g : GraphValue) (pairs : List (ℕ × ℕ × ℕ)) → IsSpanningTree g pairs → (j : ℕ) (S : List Bool) (w : ℕ) → j < length pairs → IsReach (length g.names) pairs j S
    → IsLeastCut g pairs (pair_at pairs j).0 (pair_at pairs j).1 w → degree S g.lines ≡ w
pair-weight g pairs tree j S w l r right =
    let s = tree-side g pairs tree j S l r in
    right.weight S s.long s.holds s.misses (one-crosses (length g.names) pairs j S l s)
