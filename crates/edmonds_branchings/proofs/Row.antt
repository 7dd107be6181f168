-- The branching grows by an arc to a node that isn't covered.
use Rattle.std.specs.Prelude.{ℕ, ◌≡◌, ◌≢◌, ◌+◌, ◌-◌, ◌<◌, ◌≤◌, ◌==◌, Bool, true, false, List, [], ◌∷◌, ◌++◌, length, slice_get, slice_set, Some, All, refl}
use Rattle.std.proofs.Common.{sym, ap, ◌∙◌, subst, inl, inr, arith}
use Rattle.std.proofs.lemmas.Bool.{cases_eq, cases_lt, cases_Bool, and_parts, eq-eqb, ne_eqb, lt-ltb, le-ltb, cond-true, cond-false}
use Rattle.std.proofs.lemmas.List.{length-set, get_or-set_other}
use Rattle.std.proofs.lemmas.List.Sums.{sum_by_push, sum_by-set}
use Rattle.std.proofs.lemmas.List.Elements.{All-push, All-weaker, filter_map-append}
use Rattle.graph_core.specs.Side.{has, size, IsNonempty}
use Rattle.graph_core.specs.Lines.{within, induced}
use Rattle.graph_core.specs.Picked.{picked}
use Rattle.graph_core.specs.Trees.{in_degree, IsAcyclic}
use Rattle.graph_core.proofs.Counting.{weight, sum_by-agree}
use Rattle.graph_core.proofs.SideLaws.{contains-has, has-below}
use Rattle.graph_core.specs.declared.graph.Line.{Line}
use Rattle.flow_cuts.specs.declared.network.Cap.{Cap}
use Rattle.edmonds_branchings.specs.Network.{cap_at, taken}
use Rattle.edmonds_branchings.specs.Round.{IsEligible}
use Rattle.edmonds_branchings.specs.Row.{row_with, IsRow}
use Rattle.edmonds_branchings.proofs.Capacity.{left_within}
use Rattle.edmonds_branchings.proofs.Taken.{some_line, cap-taken, left_taken}
use Rattle.graph_core.proofs.PutLaws.{put_here, put_kept}

-- the ends of a line are covered
abbrev pub IsInner : List Bool → Line → Type 0
IsInner T l = (has T l.tail ≡ true) × (has T l.head ≡ true)

apart_in : (T : List Bool) (u v : ℕ) → has T u ≡ true → has T v ≡ false → u ≢ v
apart_in T u v h out e = absurd (cc (ap (has T) e, h, out))

-- a line from the covered nodes to one that isn't makes no circuit
pub acyclic_more : (n : ℕ) (ls : List Line) (l : Line) (T : List Bool) → IsAcyclic n ls → All (IsInner T) ls → has T l.tail ≡ true → has T l.head ≡ false → IsAcyclic n (ls ++ l ∷ [])
acyclic_more n ls l T old inner tail out X x =
    let more : induced X (ls ++ l ∷ []) ≡ induced X ls + weight (within X l) = sum_by_push (λ y. weight (within X y)) ls l in
    elim (cases_Bool (within X l)) [
      | inl inside ↦
          let v = l.head in
          let Y = slice_set X v false in
          let (tail_x, head_x) = and_parts (has X l.tail) (has X v) inside in
          let smaller : size Y + weight (has X v) ≡ size X + 0 = sum_by-set weight X v false false (has-below X v head_x) in
          let y : IsNonempty n Y = record {
            long = length-set X v false ∙ x.long;
            some_in = contains-has Y l.tail (get_or-set_other X v l.tail false false (apart_in T l.tail v tail out) ∙ tail_x);
          } in
          let same : induced Y ls ≡ induced X ls = sum_by-agree (λ z. weight (within Y z)) (λ z. weight (within X z)) ls
          (All-weaker (IsInner T) (λ z. weight (within Y z) ≡ weight (within X z))
          (λ z i. rw (get_or-set_other X v z.tail false false (apart_in T z.tail v i.0 out), get_or-set_other X v z.head false false (apart_in T z.head v i.1 out)) refl) ls inner) in
          omega (arith, more, ap weight inside, smaller, ap weight head_x, same, old Y y)
      | inr outside ↦ omega (arith, more, ap weight outside, old X x)
    ]

pub picked_push : (ls : List Line) (row : List ℕ) (j : ℕ) (l : Line) → slice_get ls j ≡ Some l → picked ls (row ++ j ∷ []) ≡ picked ls row ++ l ∷ []
picked_push ls row j l is = filter_map-append (slice_get ls) row (j ∷ []) ∙ rw is refl

same_test : (j m v w : ℕ) → j ≡ m + v → (j == m + w) ≡ (v == w)
same_test j m v w e =
    elim (cases_eq v w) [
      | inl h ↦ eq-eqb j (m + w) (omega arith) ∙ sym (eq-eqb v w h)
      | inr h ↦ ne_eqb j (m + w) (λ q. h (omega arith)) ∙ sym (ne_eqb v w h)
    ]

module _ {n : ℕ} {ls : List Line} {before arcs : List Cap} {T : List Bool} {row : List ℕ} (j : ℕ) (r : IsRow n ls before arcs T row) (e : IsEligible arcs T j) (within_T : (cap_at arcs j).tail < length T) where
  abbrev v : ℕ
  v = (cap_at arcs j).tail

  abbrev T' : List Bool
  T' = slice_set T v true

  has_more : (w : ℕ) → weight (has T' w) ≡ weight (has T w) + weight (v == w)
  has_more w =
      elim (cases_eq w v) [
        | inl h ↦ rw h (omega (arith, ap weight (put_here T v within_T), ap weight e.tail, ap weight (eq-eqb v v refl)))
        | inr h ↦ omega (arith, ap weight (get_or-set_other T v w true false h), ap weight (ne_eqb v w (λ q. h (sym q))))
      ]

  inner_kept : (l : Line) → IsInner T l → IsInner T' l
  inner_kept l (a, b) = (put_kept T v l.tail a, put_kept T v l.head b)

  -- the arc is one of the digraph's
  by_line : (l : Line) → slice_get ls j ≡ Some l → j < length ls → IsRow n ls before (taken arcs j) T' (row ++ j ∷ [])
  by_line l is below =
      let (head, tail) = r.left.lines j l is in
      let tail_in : has T l.tail ≡ true = ap (has T) (sym tail) ∙ e.head in
      let head_out : has T l.head ≡ false = ap (has T) (sym head) ∙ e.tail in
      let P = picked ls row in
      let same : picked ls (row ++ j ∷ []) ≡ P ++ l ∷ [] = picked_push ls row j l is in
      let degree : (w : ℕ) → in_degree w (P ++ l ∷ []) ≡ in_degree w P + weight (v == w) = λ w. sum_by_push (λ x. weight (x.head == w)) P l ∙ ap (λ h. in_degree w P + weight (h == w)) (sym head) in
      let head_in : has T' l.head ≡ true = ap (has T') (sym head) ∙ put_here T v within_T in
      record {
        left = left_taken arcs j e.left r.left;
        numbers = All-push (λ i. i < length ls) row j r.numbers below;
        once = λ i l. omega (arith, r.once i l, cap-taken arcs j e.left i, sum_by_push (λ x. weight (x == i)) row j);
        inner = rw same (All-push (IsInner T') P l (All-weaker (IsInner T) (IsInner T') inner_kept P r.inner) (put_kept T v l.tail tail_in, head_in));
        heads = λ w. rw same (omega (arith, degree w, has_more w, r.heads w));
        acyclic = rw same (acyclic_more n P l T r.acyclic r.inner tail_in head_out);
        begin = λ w l. rw same (omega (arith, degree w, has_more w, r.begin w l, cap-taken arcs j e.left (length ls + w)));
      }

  -- the arc leads to the last node
  by_root : length ls ≤ j → IsRow n ls before (taken arcs j) T' row
  by_root past =
      let below : j - length ls < n = omega (arith, left_within arcs j e.left, r.left.long) in
      let at : length ls + (j - length ls) ≡ j = omega arith in
      let root : v ≡ j - length ls = ap (λ i. (cap_at arcs i).tail) (sym at) ∙ (r.left.roots (j - length ls) below).0 in
      let sum : j ≡ length ls + v = omega arith in
      record {
        left = left_taken arcs j e.left r.left;
        numbers = r.numbers;
        once = λ i l. omega (arith, r.once i l, cap-taken arcs j e.left i, ap weight (ne_eqb j i (λ q. absurd (omega arith))));
        inner = All-weaker (IsInner T) (IsInner T') inner_kept (picked ls row) r.inner;
        heads = λ w. omega (arith, has_more w, r.heads w);
        acyclic = r.acyclic;
        begin = λ w l. omega (arith, has_more w, r.begin w l, cap-taken arcs j e.left (length ls + w), ap weight (same_test j (length ls) v w sum));
      }

  pub row_taken : IsRow n ls before (taken arcs j) T' (row_with (length ls) row j)
  row_taken =
      let P : List ℕ → Type 0 = IsRow n ls before (taken arcs j) T' in
      elim (cases_lt j (length ls)) [
        | inl l ↦ let (x, is) = some_line ls j l in subst P (sym (cond-true _ (row ++ j ∷ []) row (lt-ltb j (length ls) l))) (by_line x is l)
        | inr past ↦ subst P (sym (cond-false _ (row ++ j ∷ []) row (le-ltb j (length ls) past))) (by_root past)
      ]
