-- What an arc that is taken leaves.
use Rattle.std.specs.Prelude.{ℕ, ◌≡◌, ◌≢◌, ◌+◌, ◌-◌, ◌<◌, ◌≤◌, ◌==◌, Bool, true, false, List, length, slice_get, slice_index_or, slice_set, Some, All, refl}
use Rattle.std.proofs.Common.{sym, ap, ◌∙◌, subst, inl, inr, arith}
use Rattle.std.proofs.lemmas.Bool.{cases_eq, cases_lt, false_from_ne_true, eq-eqb, ne_eqb}
use Rattle.std.proofs.lemmas.List.{length-set, get_or-set_same, get_or-set_other}
use Rattle.std.proofs.lemmas.Option.{slice_get-get_or}
use Rattle.std.proofs.lemmas.List.Elements.{All-from_get_or}
use Rattle.graph_core.specs.Graph.{Fits, no_line}
use Rattle.graph_core.specs.Side.{has}
use Rattle.graph_core.proofs.Counting.{weight}
use Rattle.graph_core.specs.declared.graph.Line.{Line}
use Rattle.flow_cuts.specs.declared.network.Cap.{Cap}
use Rattle.flow_cuts.specs.Network.{across, capacity}
use Rattle.edmonds_branchings.specs.Network.{no_arc, cap_at, taken, AreEnds, IsLeft}
use Rattle.edmonds_branchings.specs.Round.{AreApart, IsRound, IsFree, IsEligible}
use Rattle.edmonds_branchings.proofs.Capacity.{left_within, capacity-taken, tail-taken, head-taken}
use Rattle.graph_core.proofs.PutLaws.{put_here, put_kept}

pub some_line : (ls : List Line) (j : ℕ) → j < length ls → (l : Line) × (slice_get ls j ≡ Some l)
some_line ls j l = (_, slice_get-get_or ls j no_line l)

-- the ends of what is left are nodes
pub ends_left : {n : ℕ} {ls : List Line} {arcs : List Cap} → All (Fits n) ls → IsLeft n ls arcs → AreEnds n arcs
ends_left {n} {ls} {arcs} fits left =
    let P : ℕ → Type 0 = λ j. ((cap_at arcs j).tail < n) × ((cap_at arcs j).head ≤ n) in
    All-from_get_or (λ a. (a.tail < n) × (a.head ≤ n)) arcs no_arc
    (λ j within. elim (cases_lt j (length ls)) [
      | inl l ↦
          let (tail, head) = left.lines j (slice_index_or ls j no_line) (slice_get-get_or ls j no_line l) in
          let f = fits j no_line l in
          (omega (arith, tail, f.head), omega (arith, head, f.tail))
      | inr past ↦
          let below : j - length ls < n = omega (arith, left.long) in
          let (tail, head) = left.roots (j - length ls) below in
          let at : P (length ls + (j - length ls)) = (omega (arith, tail), omega (arith, head)) in
          subst P (omega arith) at
    ])

module _ (arcs : List Cap) (j : ℕ) (left : 0 < (cap_at arcs j).cap) where
  pub cap-taken_here : (cap_at (taken arcs j) j).cap + 1 ≡ (cap_at arcs j).cap
  cap-taken_here = omega (arith, ap (λ a. a.cap) (get_or-set_same arcs j (record (cap_at arcs j) { cap = (cap_at arcs j).cap - 1 }) no_arc (left_within arcs j left)))

  pub cap-taken_off : (i : ℕ) → i ≢ j → (cap_at (taken arcs j) i).cap ≡ (cap_at arcs i).cap
  cap-taken_off i ne = ap (λ a. a.cap) (get_or-set_other arcs j i (record (cap_at arcs j) { cap = (cap_at arcs j).cap - 1 }) no_arc ne)

  -- arc j has one less
  pub cap-taken : (i : ℕ) → (cap_at (taken arcs j) i).cap + weight (j == i) ≡ (cap_at arcs i).cap
  cap-taken i =
      elim (cases_eq i j) [
        | inl e ↦ rw (e, eq-eqb j j refl) cap-taken_here
        | inr ne ↦ let off : (j == i) ≡ false = ne_eqb j i (λ e. ne (sym e)) in omega (arith, ap weight off, cap-taken_off i ne)
      ]

  pub left_taken : {n : ℕ} {ls : List Line} → IsLeft n ls arcs → IsLeft n ls (taken arcs j)
  left_taken h = record {
    long = length-set arcs j (record (cap_at arcs j) { cap = (cap_at arcs j).cap - 1 }) ∙ h.long;
    lines = λ i l is. let (tail, head) = h.lines i l is in (tail-taken arcs j left i ∙ tail, head-taken arcs j left i ∙ head);
    roots = λ v l. let (tail, head) = h.roots v l in (tail-taken arcs j left _ ∙ tail, head-taken arcs j left _ ∙ head);
  }

keeps_most : (a b : Bool) (k before after : ℕ) → after + across a b 1 ≡ before → k ≤ before + 1 → (a ≡ true → b ≡ false → k ≤ before) → k ≤ after + 1
keeps_most true true k before after e most free = omega arith
keeps_most true false k before after e most free = let h = free refl refl in omega arith
keeps_most false b k before after e most free = omega arith

-- the round goes on
pub round_taken : (n k : ℕ) (arcs : List Cap) (T : List Bool) (j : ℕ) → AreEnds n arcs → IsRound n k arcs T → IsEligible arcs T j → IsFree n k arcs j
    → IsRound n k (taken arcs j) (slice_set T (cap_at arcs j).tail true)
round_taken n k arcs T j ends r e free =
    let v = (cap_at arcs j).tail in
    let u = (cap_at arcs j).head in
    let ends_j = ends j no_arc (left_within arcs j e.left) in
    let below : v < length T = omega (arith, ends_j.0, r.long) in
    record {
      long = length-set T v true ∙ r.long;
      last = put_kept T v n r.last;
      most = λ X x. keeps_most (has X v) (has X u) k (capacity X arcs) (capacity X (taken arcs j)) (capacity-taken arcs j e.left X) (r.most X x) (free X x);
      apart = λ X x apart.
          let out : has X v ≡ false = false_from_ne_true (has X v) (λ h. let a = apart v h in let b = put_here T v below in absurd (cc (a, b))) in
          let old : AreApart X T = λ w h. false_from_ne_true (has T w) (λ t. let a = apart w h in let b = put_kept T v w t in absurd (cc (a, b))) in
          let none : across (has X v) (has X u) 1 ≡ 0 = rw out refl in
          omega (arith, capacity-taken arcs j e.left X, none, r.apart X x old);
    }
