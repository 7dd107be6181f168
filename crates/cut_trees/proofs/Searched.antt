-- A search in a cut tree: how it begins, that it doesn't get stuck, and a pair more.
use Rattle.std.specs.Prelude.{ℕ, ◌≡◌, ◌≢◌, ◌+◌, ◌<◌, ◌≤◌, Bool, true, false, not, List, length, slice_set, count_by, All, refl}
use Rattle.std.proofs.Common.{sym, ap, ◌∙◌, arith, inl, inr}
use Rattle.std.proofs.lemmas.Bool.{cases_eq, cases_lt}
use Rattle.std.proofs.lemmas.List.{length-map, get_or-set_same, get_or-set_other}
use Rattle.std.proofs.Math.ListN.{length-set}
use Rattle.std.proofs.lemmas.List.Elements.{All-get_or, All-from_get_or, All-set}
use Rattle.std.proofs.lemmas.List.Sums.{sum_by-set}
use Rattle.graph_core.specs.Graph.{GraphValue, Fits}
use Rattle.graph_core.specs.Lines.{differ, degree}
use Rattle.graph_core.specs.Side.{has, size, complement, IsOnly}
use Rattle.graph_core.proofs.Counting.{weight, count_by-fails}
use Rattle.graph_core.proofs.CutLaws.{degree-complement, differ_same, differ_sym}
use Rattle.graph_core.proofs.ProperLaws.{is_proper}
use Rattle.graph_core.proofs.PutLaws.{size-only, size-put, some_missing, put_here, put_kept}
use Rattle.graph_core.proofs.SideLaws.{has-complement}
use Rattle.problem_defs.specs.CutTree.{tree_lines, IsLeastCut, IsSpanningTree}
use Rattle.graph_core.specs.Pairs.{no_pair, pair_at, AreIn}
use Rattle.cut_trees.specs.Order.{outward, IsReached, IsOrdered, IsSearched}
use Rattle.problem_defs.proofs.TreeLines.{length-tree, degree-tree}
use Rattle.graph_core.proofs.TreeLaws.{tree_connected}

abbrev pub parts : List Bool → ℕ × ℕ × ℕ → Bool
parts Z p = differ (has Z p.0) (has Z p.1)

-- a pair turned outward
module _ (X : List Bool) (p : ℕ × ℕ × ℕ) (cross : parts X p ≡ true) where
  pub out_first : (f : Bool) → has X p.0 ≡ f → has X (outward f p).0 ≡ true
  out_first true e = e
  out_first false e = (λ z. differ (sym e z) (has X p.1)) ∙ cross

  pub out_second : (f : Bool) → has X p.0 ≡ f → has X (outward f p).1 ≡ false
  out_second true e = not_false (has X p.1) ((λ z. differ (sym e z) (has X p.1)) ∙ cross)
    where
      not_false : (a : Bool) → not a ≡ true → a ≡ false
      not_false a h = grind arith
  out_second false e = e

pub parts-outward : (Z : List Bool) (f : Bool) (p : ℕ × ℕ × ℕ) → parts Z (outward f p) ≡ parts Z p
parts-outward Z true p = refl
parts-outward Z false p = differ_sym (has Z p.1) (has Z p.0)

pub in-outward : (n : ℕ) (f : Bool) (p : ℕ × ℕ × ℕ) → (p.0 < n) × (p.1 < n) → ((outward f p).0 < n) × ((outward f p).1 < n)
in-outward n true p h = h
in-outward n false p h = (h.1, h.0)

-- ps with the pair at k at place i, written as p
abbrev pub brought : List (ℕ × ℕ × ℕ) → ℕ → ℕ → ℕ × ℕ × ℕ → List (ℕ × ℕ × ℕ)
brought ps i k p = slice_set (slice_set ps k (pair_at ps i)) i p

module _ (ps : List (ℕ × ℕ × ℕ)) (i k : ℕ) (p : ℕ × ℕ × ℕ) (li : i < length ps) (lk : k < length ps) where
  inner_long : i < length (slice_set ps k (pair_at ps i))
  inner_long = omega (arith, length-set ps k (pair_at ps i))

  pub brought-here : pair_at (brought ps i k p) i ≡ p
  brought-here = get_or-set_same (slice_set ps k (pair_at ps i)) i p no_pair inner_long

  pub brought-before : i ≤ k → (j : ℕ) → j < i → pair_at (brought ps i k p) j ≡ pair_at ps j
  brought-before ik j l = get_or-set_other (slice_set ps k (pair_at ps i)) i j p no_pair (omega arith) ∙ get_or-set_other ps k j (pair_at ps i) no_pair (omega arith)

  pub All-brought : (P : ℕ × ℕ × ℕ → Type 0) → All P ps → P p → All P (brought ps i k p)
  All-brought P h new = All-set P (slice_set ps k (pair_at ps i)) i p new (All-set P ps k (pair_at ps i) (All-get_or P ps i no_pair li h) h)

  inner_at : pair_at (slice_set ps k (pair_at ps i)) i ≡ pair_at ps i
  inner_at = elim (cases_eq i k) [
    | inl e ↦ rw e (get_or-set_same ps k (pair_at ps k) no_pair lk)
    | inr ne ↦ get_or-set_other ps k i (pair_at ps i) no_pair ne
  ]

  pub count-brought : (q : ℕ × ℕ × ℕ → Bool) → q p ≡ q (pair_at ps k) → count_by q (brought ps i k p) ≡ count_by q ps
  count-brought q e =
      let f : ℕ × ℕ × ℕ → ℕ = λ r. weight (q r) in
      let first = sum_by-set f ps k (pair_at ps i) no_pair lk in
      let second = sum_by-set f (slice_set ps k (pair_at ps i)) i p no_pair inner_long in
      omega (arith, ap f inner_at, ap weight e)

-- the first pairs tell where a search has come
reached_agree : (u : ℕ) (ps qs : List (ℕ × ℕ × ℕ)) (i k x : ℕ) → ((j : ℕ) → j < i → pair_at qs j ≡ pair_at ps j) → k ≤ i → IsReached u ps k x → IsReached u qs k x
reached_agree u ps qs i k x same le (inl e) = inl e
reached_agree u ps qs i k x same le (inr (j, l, e)) = inr (j, l, ap (λ p. p.1) (same j (omega arith)) ∙ e)

reached_more : (u : ℕ) (ps : List (ℕ × ℕ × ℕ)) (i x : ℕ) → IsReached u ps i x → IsReached u ps (i + 1) x
reached_more u ps i x (inl e) = inl e
reached_more u ps i x (inr (j, l, e)) = inr (j, omega arith, e)

module _ {g : GraphValue} {pairs : List (ℕ × ℕ × ℕ)} (fit : All (Fits (length g.names)) g.lines) (tree : IsSpanningTree g pairs) where
  abbrev n : ℕ
  n = length g.names

  -- a least cut is one the other way round
  pub turned_cut : (u v w : ℕ) → u < n → v < n → IsLeastCut g pairs u v w → IsLeastCut g pairs v u w
  turned_cut u v w lu lv cut = record {
    weight = λ X e holds misses one.
        let C = complement X in
        let in_u : has C u ≡ true = has-complement X u (omega arith) ∙ ap not misses in
        let out_v : has C v ≡ false = has-complement X v (omega arith) ∙ ap not holds in
        sym (degree-complement g.lines fit X e) ∙ cut.weight C (length-map X not ∙ e) in_u out_v (degree-complement (tree_lines pairs) tree.fit X e ∙ one);
    least = λ Y e h. cut.least Y e (differ_sym (has Y u) (has Y v) ∙ h);
  }

  cut-outward : (f : Bool) (p : ℕ × ℕ × ℕ) → (p.0 < n) × (p.1 < n) → IsLeastCut g pairs p.0 p.1 p.2 → IsLeastCut g pairs (outward f p).0 (outward f p).1 (outward f p).2
  cut-outward true p both cut = cut
  cut-outward false p both cut = turned_cut p.0 p.1 p.2 both.0 both.1 cut

  pub searched_first : (u : ℕ) (X : List Bool) → AreIn n pairs → All (λ p. IsLeastCut g pairs p.0 p.1 p.2) pairs → length X ≡ n → IsOnly X u → IsSearched g pairs u pairs 0 X
  searched_first u X nodes cuts long only = record {
    long = long;
    many = tree.many;
    nodes = nodes;
    cuts = cuts;
    same = λ Z. refl;
    ordered = record { from = λ k l. absurd (omega arith); fresh = λ j k le l. absurd (omega arith); apart = λ j k lt l. absurd (omega arith) };
    start = only.here;
    ends = λ k l. absurd (omega arith);
    reached = λ x h. inl (only.only x h);
    size = size-only X u only;
  }

  module _ {u i : ℕ} {ps : List (ℕ × ℕ × ℕ)} {X : List Bool} (s : IsSearched g pairs u ps i X) where
    -- a pair leaves what a search has come to, until it has come to all nodes
    pub searched_on : i < length ps → ((k : ℕ) → i ≤ k → k < length ps → has X (pair_at ps k).0 ≡ has X (pair_at ps k).1) → ⊥
    searched_on l none =
        let none_cross : All (λ p. parts X p ≡ false) ps =
        All-from_get_or (λ p. parts X p ≡ false) ps no_pair (λ k lk. differ_same (has X (pair_at ps k).0) (has X (pair_at ps k).1) (elim (cases_lt k i) [
          | inl before ↦ (let both = s.ends k before in both.0 ∙ sym both.1)
          | inr behind ↦ none k behind lk
        ])) in
        let zero : degree X (tree_lines pairs) ≡ 0 = sym (s.same X) ∙ degree-tree X ps ∙ count_by-fails (parts X) ps none_cross in
        let short : size X < length X = omega (arith, s.size, s.many, s.long) in
        let (v, lv, out) = some_missing X short in
        let some = tree_connected (tree_lines pairs) tree.fit tree.acyclic (omega (arith, length-tree pairs, tree.many)) X (is_proper X u v s.long s.start (omega (arith, s.long)) out) in
        omega arith

    module _ (k : ℕ) (li : i < length ps) (lk : k < length ps) (ik : i ≤ k) (cross : parts X (pair_at ps k) ≡ true) where
      abbrev f : Bool
      f = has X (pair_at ps k).0

      abbrev out : ℕ × ℕ × ℕ
      out = outward f (pair_at ps k)

      abbrev ps' : List (ℕ × ℕ × ℕ)
      ps' = brought ps i k out

      tail_in : has X out.0 ≡ true
      tail_in = out_first X (pair_at ps k) cross f refl

      head_out : has X out.1 ≡ false
      head_out = out_second X (pair_at ps k) cross f refl

      ends_in : (out.0 < n) × (out.1 < n)
      ends_in = in-outward n f (pair_at ps k) (All-get_or (λ p. (p.0 < n) × (p.1 < n)) ps k no_pair lk s.nodes)

      here : pair_at ps' i ≡ out
      here = brought-here ps i k out li lk

      before : (j : ℕ) → j < i → pair_at ps' j ≡ pair_at ps j
      before = brought-before ps i k out li lk ik

      -- what is in X isn't where the new pair leads
      not_new : (x : ℕ) → has X x ≡ true → x ≢ out.1
      not_new x h e = let a = ap (has X) e in let b = head_out in absurd cc

      ordered_more : IsOrdered u ps' (i + 1)
      ordered_more = record {
        from = λ j l. elim (cases_eq j i) [
          | inl e ↦ rw (e, here) (reached_agree u ps ps' i i out.0 before (omega arith) (s.reached out.0 tail_in))
          | inr ne ↦ rw (before j (omega arith)) (reached_agree u ps ps' i j (pair_at ps j).0 before (omega arith) (s.ordered.from j (omega arith)))
        ];
        fresh = λ j m le l. elim (cases_eq m i) [
          | inl e ↦
              rw (e, here) (elim (cases_eq j i) [
                | inl same ↦ rw (same, here) (not_new out.0 tail_in)
                | inr other ↦ rw (before j (omega arith)) (not_new (pair_at ps j).0 (s.ends j (omega arith)).0)
              ])
          | inr ne ↦ rw (before j (omega arith), before m (omega arith)) (s.ordered.fresh j m le (omega arith))
        ];
        apart = λ j m lt l. elim (cases_eq m i) [
          | inl e ↦ rw (e, here, before j (omega arith)) (not_new (pair_at ps j).1 (s.ends j (omega arith)).1)
          | inr ne ↦ rw (before j (omega arith), before m (omega arith)) (s.ordered.apart j m lt (omega arith))
        ];
      }

      pub searched_more : IsSearched g pairs u ps' (i + 1) (slice_set X out.1 true)
      searched_more = record {
        long = length-set X out.1 true ∙ s.long;
        many = omega (arith, length-set (slice_set ps k (pair_at ps i)) i out, length-set ps k (pair_at ps i), s.many);
        nodes = All-brought ps i k out li lk (λ p. (p.0 < n) × (p.1 < n)) s.nodes ends_in;
        cuts = All-brought ps i k out li lk (λ p. IsLeastCut g pairs p.0 p.1 p.2) s.cuts
            (cut-outward f (pair_at ps k) (All-get_or (λ p. (p.0 < n) × (p.1 < n)) ps k no_pair lk s.nodes) (All-get_or (λ p. IsLeastCut g pairs p.0 p.1 p.2) ps k no_pair lk s.cuts));
        same = λ Z. degree-tree Z ps' ∙ count-brought ps i k out li lk (parts Z) (parts-outward Z f (pair_at ps k)) ∙ sym (degree-tree Z ps) ∙ s.same Z;
        ordered = ordered_more;
        start = put_kept X out.1 u s.start;
        ends = λ j l. elim (cases_eq j i) [
          | inl e ↦ rw (e, here) (put_kept X out.1 out.0 tail_in, put_here X out.1 (omega (arith, ends_in.1, s.long)))
          | inr ne ↦ (let both = s.ends j (omega arith) in rw (before j (omega arith)) (put_kept X out.1 (pair_at ps j).0 both.0, put_kept X out.1 (pair_at ps j).1 both.1))
        ];
        reached = λ x h. elim (cases_eq x out.1) [
          | inl e ↦ inr (i, omega arith, ap (λ p. p.1) here ∙ sym e)
          | inr ne ↦ reached_more u ps' i x (reached_agree u ps ps' i i x before (omega arith) (s.reached x (sym (get_or-set_other X out.1 x true false ne) ∙ h)))
        ];
        size = size-put X out.1 (omega (arith, ends_in.1, s.long)) head_out ∙ ap (λ m. m + 1) s.size;
      }
