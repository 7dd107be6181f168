-- The lines of a spanning tree, n - 1 lines without a circuit: each proper side is crossed, and one side belongs to each line.
use Rattle.std.specs.Prelude.{ℕ, zero, suc, ◌≡◌, ◌+◌, ◌<◌, ◌==◌, Bool, true, false, not, ◌&&◌, List, [], ◌∷◌, length, replicate, remove, slice_index_or, All, refl}
use Rattle.std.proofs.Common.{sym, ap, ◌∙◌, arith, inl, inr}
use Rattle.std.proofs.lemmas.Bool.{cases_Bool, cases_eq, false_from_ne_true}
use Rattle.std.proofs.lemmas.List.{ext_get_or, length-replicate}
use Rattle.std.proofs.lemmas.List.Elements.{All-cons, All-head, All-tail, All-weaker}
use Rattle.std.proofs.lemmas.List.Sums.{sum_by-remove}
use Rattle.std.proofs.lemmas.Simd.{length-zip2}
use Rattle.graph_core.specs.Side.{has, meet, minus}
use Rattle.graph_core.specs.Lines.{differ, crosses, within, degree, induced}
use Rattle.graph_core.specs.Graph.{Fits}
use Rattle.graph_core.specs.Trees.{IsAcyclic}
use Rattle.graph_core.specs.Connected.{IsEdgeConnected}
use Rattle.graph_core.specs.Labels.{class, splits, joined, Labels, Adds}
use Rattle.graph_core.specs.declared.graph.Line.{Line}
use Rattle.graph_core.proofs.Counting.{weight, All-both, none-pass, count_by-fails, sum_by-ones}
use Rattle.graph_core.proofs.JoinLaws.{labels_more}
use Rattle.graph_core.proofs.CutLaws.{differ_same, same_from_differ}
use Rattle.graph_core.proofs.LabelLaws.{in_class, to_class, split_not, circuit, labels_none}
use Rattle.graph_core.proofs.ProperLaws.{is_proper, node_in, node_out}
use Rattle.graph_core.proofs.SetLaws.{has_of, length_of}
use Rattle.graph_core.proofs.SideLaws.{has-zip2, has-minus, has-whole, nonempty-has}
use Rattle.graph_core.proofs.SizeLaws.{count-cons, size-all}
use Rattle.graph_core.proofs.SplitLaws.{AreUncrossed, induced-split, size-split}
use lib.Lanes.{zip2}

-- the other lines, and line j
pub removed : (ls : List Line) (j : ℕ) (d : Line) → j < length ls → Adds (remove ls j) (slice_index_or ls j d) ls
removed ls j d l = record { counts = λ p. omega (arith, sum_by-remove (λ k. weight (p k)) ls j d l) }

pub All-removed : (P : Line → Type 0) (ls : List Line) (j : ℕ) → All P ls → All P (remove ls j)
All-removed P [] zero h = h
All-removed P [] (suc j) h = h
All-removed P (l ∷ ls) zero h = All-tail P l ls h
All-removed P (l ∷ ls) (suc j) h = All-cons P l (remove ls j) (All-head P l ls h) (All-removed P ls j (All-tail P l ls h))

-- any lines have their labels
labels : (n : ℕ) (ls : List Line) → All (Fits n) ls → (lab : ℕ → ℕ) × Labels n lab ls
labels n [] fits = (λ v. v, labels_none n)
labels n (l ∷ ls) fits =
    let fit = All-head (Fits n) l ls fits in
    let (lab, w) = labels n ls (All-tail (Fits n) l ls fits) in
    (joined lab (lab l.tail) (lab l.head), labels_more n lab ls l (l ∷ ls) w (record { counts = λ p. count-cons p l ls }) fit.tail fit.head)

module _ {n : ℕ} (ls : List Line) (acyclic : IsAcyclic n ls) where
  -- Without a line, which the others are with it, no line joins the classes of its two ends: there is a side that it alone crosses.
  pub line_side : (rest : List Line) (l : Line) → All (Fits n) rest → Fits n l → Adds rest l ls
      → (Z : List Bool) × (length Z ≡ n) × (has Z l.tail ≡ true) × (has Z l.head ≡ false) × (degree Z ls ≡ 1)
  line_side rest l fits fit adds =
      let (lab, w) = labels n rest fits in
      let Z = class n lab (lab l.tail) in
      let holds : has Z l.tail ≡ true = to_class n lab (lab l.tail) l.tail fit.tail refl in
      let misses : has Z l.head ≡ false = false_from_ne_true (has Z l.head) (λ h. circuit n lab rest l ls w adds fit.tail fit.head (sym (in_class n lab (lab l.tail) l.head h).1) acyclic) in
      let uncrossed : degree Z rest ≡ 0 =
      count_by-fails (crosses Z) rest (All-both (Fits n) (λ k. splits lab k ≡ false) (λ k. crosses Z k ≡ false)
      (λ k f h. differ_same (has Z k.tail) (has Z k.head) (has_of n (λ v. lab v == lab l.tail) k.tail f.tail ∙ ap (λ x. x == lab l.tail) (split_not n lab k h) ∙ sym (has_of n (λ v. lab v == lab l.tail) k.head f.head)))
      rest fits (none-pass (splits lab) rest w.closed)) in
      let here : crosses Z l ≡ true = (λ z. differ (holds z) (misses z)) in
      (Z, length_of n (λ v. lab v == lab l.tail), holds, misses, omega (arith, adds.counts (crosses Z), ap weight here))

module _ {n : ℕ} (ls : List Line) (fits : All (Fits n) ls) (acyclic : IsAcyclic n ls) (many : length ls + 1 ≡ n) where
  -- what no line crosses has all nodes or none, since the lines within it and those outside are too few
  uncrossed : (X : List Bool) (u v : ℕ) → length X ≡ n → AreUncrossed X ls → u < n → has X u ≡ true → v < n → has X v ≡ false → ⊥
  uncrossed X u v e h lu in_u lv out_v =
      let W = replicate n true in
      let long : length W ≡ length X = length-replicate n true ∙ sym e in
      let whole : induced W ls ≡ length ls =
      sum_by-ones (λ l. weight (within W l)) ls (All-weaker (Fits n) (λ l. weight (within W l) ≡ 1) (λ l f. ap weight (λ z. has-whole n l.tail f.tail z && has-whole n l.head f.head z)) ls fits) in
      let near : has (meet W X) u ≡ true = has-zip2 ◌&&◌ refl W X u long ∙ (λ z. has-whole n u lu z && in_u z) in
      let far : has (minus W X) v ≡ true = has-minus W X v long ∙ (λ z. has-whole n v lv z && not (out_v z)) in
      let a = acyclic (meet W X) (nonempty-has n (meet W X) u (length-zip2 ◌&&◌ W X long ∙ length-replicate n true) near) in
      let b = acyclic (minus W X) (nonempty-has n (minus W X) v (length-zip2 (λ x y. x && not y) W X long ∙ length-replicate n true) far) in
      omega (arith, induced-split W X long ls h, size-split W X long, size-all n)

  -- a spanning tree connects its nodes
  pub tree_connected : IsEdgeConnected 1 n ls
  tree_connected X p =
      let (u, lu, in_u) = node_in X p in
      let (v, lv, out_v) = node_out X p in
      elim (cases_eq (degree X ls) 0) [
        | inl none ↦
            absurd (uncrossed X u v p.long (All-weaker (λ l. crosses X l ≡ false) (λ l. has X l.tail ≡ has X l.head) (λ l. same_from_differ (has X l.tail) (has X l.head)) ls (none-pass (crosses X) ls none)) lu in_u lv out_v)
        | inr some ↦ omega arith
      ]

  -- two sides that a line alone crosses, the same way, are one
  pub one_side : (rest : List Line) (l : Line) → Fits n l → Adds rest l ls → (X Z : List Bool) → length X ≡ n → length Z ≡ n
      → has X l.tail ≡ true → has Z l.tail ≡ true → has X l.head ≡ false → has Z l.head ≡ false → degree X ls ≡ 1 → degree Z ls ≡ 1 → X ≡ Z
  one_side rest l fit adds X Z ex ez tx tz hx hz one_x one_z =
      let same : length X ≡ length Z = ex ∙ sym ez in
      let D = zip2 differ X Z in
      let at : (v : ℕ) → has D v ≡ differ (has X v) (has Z v) = λ v. has-zip2 differ refl X Z v same in
      let tail : has D l.tail ≡ false = at l.tail ∙ (λ z. differ (tx z) (tz z)) in
      let head : has D l.head ≡ false = at l.head ∙ (λ z. differ (hx z) (hz z)) in
      let cross_x : crosses X l ≡ true = (λ z. differ (tx z) (hx z)) in
      let cross_z : crosses Z l ≡ true = (λ z. differ (tz z) (hz z)) in
      let cross_d : crosses D l ≡ false = (λ z. differ (tail z) (head z)) in
      let x : degree X rest ≡ 0 = omega (arith, adds.counts (crosses X), ap weight cross_x) in
      let z : degree Z rest ≡ 0 = omega (arith, adds.counts (crosses Z), ap weight cross_z) in
      let d : degree D rest ≡ 0 =
      count_by-fails (crosses D) rest (All-both (λ k. crosses X k ≡ false) (λ k. crosses Z k ≡ false) (λ k. crosses D k ≡ false)
      (λ k a b. differ_same (has D k.tail) (has D k.head) (at k.tail ∙ (λ t. differ (same_from_differ (has X k.tail) (has X k.head) a t) (same_from_differ (has Z k.tail) (has Z k.head) b t)) ∙ sym (at k.head)))
      rest (none-pass (crosses X) rest x) (none-pass (crosses Z) rest z)) in
      let none : degree D ls ≡ 0 = omega (arith, adds.counts (crosses D), ap weight cross_d) in
      ext_get_or false X Z same (λ v lv. elim (cases_Bool (has D v)) [
        | inl on ↦ absurd (let some = tree_connected D (is_proper D v l.tail (length-zip2 differ X Z same ∙ ex) on fit.tail tail) in omega arith)
        | inr off ↦ same_from_differ (has X v) (has Z v) (sym (at v) ∙ off)
      ])
