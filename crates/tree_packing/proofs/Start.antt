-- Partitions with which a search for spanning trees begins.
use Rattle.std.proofs.Common.{ℕ, ◌≡◌, ◌+◌, ◌-◌, ◌*◌, ◌<◌, ◌≤◌, Bool, true, false, List, [], ◌∷◌, length, refl, sym, ap, ◌∙◌, arith, inl, inr}
use Rattle.std.specs.Prelude.{All, not, ◌&&◌, ◌||◌}
use Rattle.std.proofs.Math.Nat.{div-one, div-mul-le_self, mul-le-mul_left}
use Rattle.std.proofs.lemmas.Bool.{cases_eq, false_from_ne_true}
use Rattle.std.proofs.lemmas.List.{ext_get_or, get_or_default}
use Rattle.std.proofs.lemmas.List.Sums.{sum_by-cons, count_by-le-length}
use Rattle.std.proofs.lemmas.List.Elements.{All-weaker}
use Rattle.std.proofs.lemmas.Nat.{le-div}
use Rattle.graph_core.specs.Families.{members_with}
use Rattle.graph_core.specs.Graph.{GraphValue, Fits}
use Rattle.graph_core.specs.Lines.{differ, crosses, parted, degree, between}
use Rattle.graph_core.specs.Side.{has, complement, IsOnly, IsProper}
use Rattle.graph_core.specs.declared.graph.Line.{Line}
use Rattle.graph_core.proofs.Counting.{weight, sum_by-agree}
use Rattle.graph_core.proofs.SideLaws.{has-complement}
use Rattle.graphic_matroid.specs.Components.{AreComponents}
use Rattle.problem_defs.specs.Trees.{IsDual, bound}
use Rattle.tree_packing.specs.Start.{IsWithinSingles}

-- ---- a node of least degree

-- two sides of a node alone are one
only-same : (n v : ℕ) (X Y : List Bool) → length X ≡ n → length Y ≡ n → IsOnly X v → IsOnly Y v → X ≡ Y
only-same n v X Y long same x y =
    ext_get_or false X Y (long ∙ sym same)
    (λ k l. elim (cases_eq k v) [
      | inl e ↦ ap (has X) e ∙ x.here ∙ sym y.here ∙ sym (ap (has Y) e)
      | inr ne ↦ false_from_ne_true (has X k) (λ h. ne (x.only k h)) ∙ sym (false_from_ne_true (has Y k) (λ h. ne (y.only k h)))
    ])

-- no node below m has less degree than X
abbrev pub IsLeastBelow : ℕ → ℕ → List Line → List Bool → Type 0
IsLeastBelow m n ls X = (Y : List Bool) (v : ℕ) → v < m → length Y ≡ n → IsOnly Y v → degree X ls ≤ degree Y ls

pub least-first : (n : ℕ) (ls : List Line) (X : List Bool) → length X ≡ n → IsOnly X 0 → IsLeastBelow 1 n ls X
least-first n ls X long x Y v first same y =
    let zero_is : v ≡ 0 = omega arith in
    let e : X ≡ Y = only-same n 0 X Y long same x (let P : ℕ → Type 0 = IsOnly Y in rw zero_is at y) in
    omega (arith, ap (λ Z. degree Z ls) e)

pub least-next : (m n : ℕ) (ls : List Line) (X Z W : List Bool) → length Z ≡ n → IsOnly Z m → IsLeastBelow m n ls X → degree W ls ≤ degree X ls → degree W ls ≤ degree Z ls → IsLeastBelow (m + 1) n ls W
least-next m n ls X Z W long z old le here Y v below same y =
    elim (cases_eq v m) [
      | inl e ↦ (let q : Z ≡ Y = only-same n m Z Y long same z (let P : ℕ → Type 0 = IsOnly Y in rw e at y) in omega (arith, here, ap (λ S. degree S ls) q))
      | inr ne ↦ (let less = old Y v (omega arith) same y in omega arith)
    ]

-- ---- the components

-- where the components are one, each proper side has a line to the rest
pub crossed-whole : (n : ℕ) (ls : List Line) (P : List (List Bool)) → AreComponents n ls P → length P < 2 → (X : List Bool) → IsProper n X → 1 ≤ degree X ls
crossed-whole n ls [] w few X proper =
    let (u, below, here) = proper.some_in in
    let none : members_with u [] ≡ 1 = w.partition.each u (omega (arith, proper.long)) in
    absurd (omega arith)
crossed-whole n ls (C ∷ D ∷ P) w few X proper = absurd (omega arith)
crossed-whole n ls (C ∷ []) w few X proper =
    let (u, in_u, here) = proper.some_in in
    let (v, in_v, gone) = proper.some_out in
    w.joined X 0 C (omega arith) u v (whole u (omega (arith, proper.long))) (whole v (omega (arith, proper.long))) (get_or_default X u false true in_u ∙ here) gone
  where
    of-weight : (b : Bool) → weight b ≡ 1 → b ≡ true
    of-weight true e = refl
    of-weight false e = absurd (omega arith)

    whole : (k : ℕ) → k < n → has C k ≡ true
    whole k below = of-weight (has C k) (omega (arith, sum_by-cons (λ Y. weight (has Y k)) C [], w.partition.each k below))

-- ---- the single nodes, and a node against the rest

pub within-singles : (g : GraphValue) (P : List (List Bool)) → IsDual g P → 2 ≤ length g.names → length g.names ≤ length P → IsWithinSingles g P
within-singles g P d two many =
    let q = bound g P in
    let small : q * (length P - 1) ≤ between P g.lines = div-mul-le_self (between P g.lines) (length P - 1) in
    let fewer : q * (length g.names - 1) ≤ q * (length P - 1) = mul-le-mul_left q (let le : length g.names - 1 ≤ length P - 1 = omega arith in le) in
    le-div q (length g.lines) (length g.names - 1) (omega arith) (omega (arith, count_by-le-length (parted P) g.lines))

parted-halves : (X : List Bool) (l : Line) → Fits (length X) l → weight (parted (X ∷ complement X ∷ []) l) ≡ weight (crosses X l)
parted-halves X l fit = rw (has-complement X l.tail fit.tail, has-complement X l.head fit.head) (by (has X l.tail) (has X l.head))
  where
    by : (a b : Bool) → weight (not (a && b || (not a && not b || false))) ≡ weight (differ a b)
    by true true = refl
    by true false = refl
    by false true = refl
    by false false = refl

-- a side and its complement allow as many trees as lines cross the side
pub bound-halves : (g : GraphValue) (X : List Bool) → All (Fits (length g.names)) g.lines → length X ≡ length g.names → bound g (X ∷ complement X ∷ []) ≡ degree X g.lines
bound-halves g X fits long =
    div-one (between (X ∷ complement X ∷ []) g.lines)
    ∙ sum_by-agree (λ l. weight (parted (X ∷ complement X ∷ []) l)) (λ l. weight (crosses X l)) g.lines
    (All-weaker (Fits (length g.names)) (λ l. weight (parted (X ∷ complement X ∷ []) l) ≡ weight (crosses X l)) (λ l fit. parted-halves X l (rw long fit)) g.lines fits)
