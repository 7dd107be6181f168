-- Lovász's proof that a round never stops before all nodes are covered.
use Rattle.std.specs.Prelude.{ℕ, zero, suc, ◌≡◌, ◌+◌, ◌<◌, ◌≤◌, Bool, true, false, not, ◌&&◌, ◌||◌, List, length, All, refl}
use Rattle.std.proofs.Common.{sym, ◌∙◌, arith}
use Rattle.std.proofs.lemmas.Bool.{and_parts, and_from}
use Rattle.std.proofs.lemmas.Simd.{length-zip2}
use Rattle.std.proofs.lemmas.List.Elements.{All-from_get_or}
use Rattle.std.proofs.lemmas.List.{length-map}
use Rattle.graph_core.specs.Side.{has, size, meet, join, minus, complement}
use Rattle.graph_core.proofs.SideLaws.{has-zip2, has-minus, has-complement, has-below}
use Rattle.graph_core.proofs.Counting.{sum_by-le_each, sum_by-zero}
use Rattle.graph_core.proofs.SplitLaws.{size-split, size-has}
use Rattle.flow_cuts.specs.declared.network.Cap.{Cap}
use Rattle.flow_cuts.specs.Network.{across, leaving, capacity}
use Rattle.edmonds_branchings.specs.Network.{no_arc, cap_at, AreEnds}
use Rattle.edmonds_branchings.specs.Round.{IsRootless, AreApart, IsRound, IsBlocked, IsEligible}
use Rattle.edmonds_branchings.proofs.Capacity.{capacity_meets}

-- an arc that leaves X - T leaves X, or leads from X - T to the part of X in T
across_part : (a b c d : Bool) (r : ℕ) → (a ≡ true → b ≡ true → c ≡ false → d ≡ true → 0 < r → ⊥) → across (a && not c) (b && not d) r ≤ across a b r
across_part false b c d r h = omega arith
across_part true false true d r h = omega arith
across_part true false false d r h = omega arith
across_part true true true d r h = omega arith
across_part true true false false r h = omega arith
across_part true true false true zero h = omega arith
across_part true true false true (suc r) h = absurd (h refl refl refl refl (omega arith))

-- the same where X has all nodes
across_rest : (c d : Bool) (r : ℕ) → (c ≡ false → d ≡ true → 0 < r → ⊥) → across (not c) (not d) r ≤ 0
across_rest true d r h = omega arith
across_rest false false r h = omega arith
across_rest false true zero h = omega arith
across_rest false true (suc r) h = absurd (h refl refl (omega arith))

not_in : (S : List Bool) (v : ℕ) → not (has S v) ≡ true → has S v ≡ false
not_in S v h = grind (arith, h)

module _ {n k : ℕ} (arcs : List Cap) (T : List Bool) (round : IsRound n k arcs T) (stuck : (j : ℕ) → IsEligible arcs T j → IsBlocked n k arcs j) where
  -- where X is critical and has both ends of an arc that may not be taken, the intersection with the side that forbids it is critical
  smaller : (X : List Bool) → IsRootless n X → capacity X arcs < k → (j : ℕ) → has X (cap_at arcs j).tail ≡ true → has X (cap_at arcs j).head ≡ true → IsBlocked n k arcs j
      → (Z : List Bool) × IsRootless n Z × (capacity Z arcs < k) × (size Z < size X) × (has Z (cap_at arcs j).tail ≡ true)
  smaller X x critical j tail head y =
      let Y = y.side in
      let u = (cap_at arcs j).head in
      let v = (cap_at arcs j).tail in
      let same : length X ≡ length Y = x.long ∙ sym y.rootless.long in
      let in_meet : has (meet X Y) v ≡ true = has-zip2 ◌&&◌ refl X Y v same ∙ and_from (has X v) (has Y v) tail y.tail in
      let both : IsRootless n (meet X Y) = record {
        long = length-zip2 ◌&&◌ X Y same ∙ x.long;
        some_in = (v, in_meet);
        last_out = rw (has-zip2 ◌&&◌ refl X Y n same, x.last_out) refl;
      } in
      let either : IsRootless n (join X Y) = record {
        long = length-zip2 ◌||◌ X Y same ∙ x.long;
        some_in = (v, rw (has-zip2 ◌||◌ refl X Y v same, tail) refl);
        last_out = rw (has-zip2 ◌||◌ refl X Y n same, x.last_out, y.rootless.last_out) refl;
      } in
      let out : has (minus X Y) u ≡ true = rw (has-minus X Y u same, head, y.head) refl in (
        meet X Y,
        both,
        omega (arith, capacity_meets arcs X Y same, round.most (join X Y) either, y.critical),
        omega (arith, size-split X Y same, size-has (minus X Y) u out),
        in_meet,
      )

  -- no critical side reaches outside T: a smaller one would
  none_outside : (s : ℕ) (X : List Bool) → size X ≤ s → IsRootless n X → capacity X arcs < k → (w : ℕ) → has X w ≡ true → has T w ≡ false → ⊥
  none_outside zero X small x critical w in_x out = absurd (omega (arith, size-has X w in_x))
  none_outside (suc s) X small x critical w in_x out =
      let same : length X ≡ length T = x.long ∙ sym round.long in
      let rest : IsRootless n (minus X T) = record {
        long = length-zip2 (λ a b. a && not b) X T same ∙ x.long;
        some_in = (w, rw (has-minus X T w same, in_x, out) refl);
        last_out = rw (has-minus X T n same, x.last_out) refl;
      } in
      let apart : AreApart (minus X T) T = λ v h. not_in T v (and_parts (has X v) (not (has T v)) (sym (has-minus X T v same) ∙ h)).1 in
      let more : k ≤ capacity (minus X T) arcs = round.apart (minus X T) rest apart in
      let each : All (λ a. leaving (minus X T) a ≤ leaving X a) arcs = All-from_get_or (λ a. leaving (minus X T) a ≤ leaving X a) arcs no_arc
      (λ j l.
      let a = cap_at arcs j in
      rw (has-minus X T a.tail same, has-minus X T a.head same)
      (across_part (has X a.tail) (has X a.head) (has T a.tail) (has T a.head) a.cap
      (λ tail_x head_x tail_t head_t left.
      let (Z, z, less, fewer, in_z) = smaller X x critical j tail_x head_x (stuck j (record { left = left; head = head_t; tail = tail_t })) in
      none_outside s Z (omega arith) z less a.tail in_z tail_t))) in
      omega (arith, sum_by-le_each (leaving (minus X T)) (leaving X) arcs each)

  -- so while a node isn't covered an arc may be taken
  pub some_free : AreEnds n arcs → 1 ≤ k → (w : ℕ) → w < n + 1 → has T w ≡ false → ⊥
  some_free ends some w below out =
      let V = complement T in
      let inside : (v : ℕ) → v < n + 1 → has V v ≡ not (has T v) = λ v l. has-complement T v (omega (arith, round.long)) in
      let rest : IsRootless n V = record {
        long = length-map T not ∙ round.long;
        some_in = (w, rw (inside w below, out) refl);
        last_out = rw (inside n (omega arith), round.last) refl;
      } in
      let apart : AreApart V T = λ v h.
      let l : v < n + 1 = omega (arith, has-below V v h, rest.long) in
      not_in T v (sym (inside v l) ∙ h) in
      let none : All (λ a. leaving V a ≤ 0) arcs = All-from_get_or (λ a. leaving V a ≤ 0) arcs no_arc
      (λ j l.
      let a = cap_at arcs j in
      let e : (a.tail < n) × (a.head ≤ n) = ends j no_arc l in
      rw (inside a.tail (omega (arith, e.0)), inside a.head (omega (arith, e.1)))
      (across_rest (has T a.tail) (has T a.head) a.cap
      (λ tail head left.
      let y = stuck j (record { left = left; head = head; tail = tail }) in
      none_outside (size y.side) y.side (omega arith) y.rootless y.critical a.tail y.tail tail))) in
      omega (arith, sum_by-le_each (leaving V) (λ _. 0) arcs none, sum_by-zero arcs, round.apart V rest apart)
