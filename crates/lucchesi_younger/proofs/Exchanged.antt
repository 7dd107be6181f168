-- The dijoin after an exchange keeps the conditions.
use Rattle.std.specs.Prelude.{ℕ, suc, ◌≡◌, ◌+◌, ◌<◌, ◌≤◌, Bool, true, false, not, ◌&&◌, List, [], ◌∷◌, length, slice_index_or, sum_by, count_by, All}
use Rattle.std.proofs.Common.{leb, sym, ap, ◌∙◌, subst, arith, inl, inr}
use Rattle.std.proofs.lemmas.Bool.{cases_Bool, cases_eq, cases_lt, and_parts, not-true}
use Rattle.std.proofs.lemmas.List.Sums.{sum_by-cons}
use Rattle.std.proofs.lemmas.List.Elements.{All-weaker}
use Rattle.graph_core.specs.Graph.{GraphValue}
use Rattle.graph_core.specs.Side.{has}
use Rattle.graph_core.specs.Lines.{enters}
use Rattle.graph_core.specs.Picked.{occurrences}
use Rattle.graph_core.specs.declared.graph.Line.{Line}
use Rattle.graph_core.proofs.Counting.{weight, passes, sum_by-ones}
use Rattle.problem_defs.specs.Dijoin.{IsClosed, IsFeasible}
use Rattle.dicut_lattice.specs.Tight.{joins, IsTight, AreSeparated}
use Rattle.dicut_lattice.specs.Level.{IsLevel, ArePieces}
use Rattle.lucchesi_younger.specs.Kept.{at, IsArc, IsIn, IsKept, AllKept, IsLate, level}
use Rattle.lucchesi_younger.specs.Ways.{IsWay, arcs_taken, arcs_left, jumps_of, IsExchanged}
use Rattle.lucchesi_younger.proofs.Joins.{entered, entered-weighed, joins-weighed, occurs-same, occurs-other, picked-in, picked-from_in, one-arc}
use Rattle.lucchesi_younger.proofs.Levels.{level-in, level-out, has-level, is-level}
use Rattle.lucchesi_younger.proofs.Order.{jumps_keep, jumps_level}
use Rattle.lucchesi_younger.proofs.WayCounts.{closed_line, way_count}
use Rattle.lucchesi_younger.proofs.WayLaws.{taken-free, left-once}
use Rattle.lucchesi_younger.proofs.Weighed.{weighed-le, weighed-le_two, weighed-some, weighed-parts, each-one}
use Rattle.lucchesi_younger.specs.declared.work.Step.{Step}
use Rattle.lucchesi_younger.specs.declared.work.Work.{Work}

-- where a test counts, one item passes
pub some-counted : {X : Type 0} (p : X → Bool) (xs : List X) (d : X) → 1 ≤ count_by p xs → (k : ℕ) × (k < length xs) × (p (slice_index_or xs k d) ≡ true)
some-counted p [] d some = absurd (omega arith)
some-counted p (x ∷ xs) d some =
    let total = sum_by-cons (λ y. weight (p y)) x xs in
    elim (cases_Bool (p x)) [
      | inl pass ↦ (0, omega arith, pass)
      | inr fail ↦ (let (k, l, e) = some-counted p xs d (omega (arith, ap weight fail)) in (suc k, omega arith, e))
    ]

module _ (g : GraphValue) (w : Work) (late s t : ℕ) (k : IsKept g w late) (e : IsLate g w late s t) (steps : List Step) (way : IsWay g w late t s steps) (new : List ℕ) (ex : IsExchanged g late steps w.join new) where
  abbrev left : List ℕ
  left = late ∷ arcs_left steps

  module _ (U : List Bool) (c : IsClosed g U) where
    late_is : entered g U late ≡ enters U e.line
    late_is = ap (passes (enters U)) e.arc

    -- the arcs that are left, and the jumps to the side, are as many as those that are taken, and the jumps from it
    balance : count_by (entered g U) left + count_by (λ p. has U p.0) (jumps_of steps) ≡ count_by (entered g U) (arcs_taken steps) + count_by (λ p. has U p.1) (jumps_of steps)
    balance =
        let way_is = way_count g w late U c steps t s way in
        let first = closed_line g U c late e.line e.arc in
        let tail : weight (has U e.line.tail) ≡ weight (has U s) = ap (λ v. weight (has U v)) e.tail in
        let head : weight (has U e.line.head) ≡ weight (has U t) = ap (λ v. weight (has U v)) e.head in
        omega (arith, sum_by-cons (λ j. weight (entered g U j)) late (arcs_left steps), ap weight late_is)

    least : joins g w.join U ≤ joins g new U + count_by (entered g U) left
    least =
        let sums = weighed-le_two (enters U) g.lines (λ j. occurrences j w.join) (λ j. occurrences j new) (λ j. occurrences j left) (λ j l arc pass. ex.kept j) in
        omega (arith, joins-weighed g w.join U, joins-weighed g new U, entered-weighed g U left)

    -- where an arc that is taken enters
    taken-enters : 1 ≤ count_by (entered g U) (arcs_taken steps) → 1 ≤ joins g new U
    taken-enters some =
        let sums = weighed-some (enters U) g.lines (λ j. occurrences j (arcs_taken steps)) (λ j. occurrences j new) (λ j l arc pass in'. ex.taken j in') (omega (arith, entered-weighed g U (arcs_taken steps))) in
        omega (arith, joins-weighed g new U)

    covered : 1 ≤ joins g new U
    covered =
        elim (cases_lt 0 (count_by (entered g U) (arcs_taken steps))) [
          | inl some ↦ taken-enters some
          | inr none ↦ omega (arith, balance, least, jumps_keep g w late k steps t s way U c)
        ]

  -- what is left is of the dijoin
  left-joins : (j : ℕ) → occurrences j left ≤ occurrences j w.join
  left-joins j =
      let once = left-once g w late steps t s way j in
      elim (cases_lt 0 (occurrences j (arcs_left steps))) [
        | inl some ↦
            let (joined, other) = once.1 some in
            omega (arith, occurs-other j late (arcs_left steps) (λ same. other (sym same)), once.0)
        | inr none ↦ elim (cases_eq late j) [
          | inl same ↦ (let here : IsIn w.join j = subst (λ i. IsIn w.join i) same e.taken in omega (arith, occurs-same j late (arcs_left steps) same))
          | inr ne ↦ omega (arith, occurs-other j late (arcs_left steps) ne)
        ]
      ]

  new-joins : (j : ℕ) → occurrences j new + occurrences j left ≤ occurrences j w.join + occurrences j (arcs_taken steps)
  new-joins j =
      let once = ex.picks.distinct j in
      let held = left-joins j in
      elim (cases_lt 0 (occurrences j new)) [
        | inr none ↦ omega arith
        | inl some ↦ elim (ex.only j some) [
          | inl in' ↦ omega arith
          | inr (old, none) ↦ omega arith
        ]
      ]

  -- the count at a level doesn't grow
  level-most : (L : List Bool) → IsClosed g L → ((x y : ℕ) → at w.potential x ≡ at w.potential y → has L x ≡ has L y) → joins g new L ≤ joins g w.join L
  level-most L c same =
      omega (
        arith,
        weighed-le (enters L) g.lines (λ j. occurrences j new) (λ j. occurrences j left) (λ j. occurrences j w.join) (λ j. occurrences j (arcs_taken steps)) (λ j l arc pass. new-joins j),
        balance L c,
        jumps_level g w late k steps t s way L same,
        joins-weighed g w.join L,
        joins-weighed g new L,
        entered-weighed g L left,
        entered-weighed g L (arcs_taken steps),
      )

  -- the pieces of a level stay tight
  pieces-tight : (L : List Bool) → IsClosed g L → ((x y : ℕ) → at w.potential x ≡ at w.potential y → has L x ≡ has L y) → (P : List (List Bool)) → ArePieces g w.join L P → All (λ U. joins g new U ≡ 1) P
  pieces-tight L c same P pieces =
      let parts : (join : List ℕ) → sum_by (λ U. joins g join U) P ≡ joins g join L =
      λ join. (λ i. sum_by (λ U. joins-weighed g join U i) P) ∙ weighed-parts enters (enters L) P g.lines (λ j. occurrences j join) pieces.entered ∙ sym (joins-weighed g join L) in
      each-one (λ U. joins g new U) P
      (All-weaker (IsTight g w.join) (λ U. 1 ≤ joins g new U) (λ U tight. covered U tight.closed) P pieces.tight)
      (omega (arith, parts w.join, parts new, level-most L c same, sum_by-ones (λ U. joins g w.join U) P (All-weaker (IsTight g w.join) (λ U. joins g w.join U ≡ 1) (λ U tight. tight.once) P pieces.tight)))

  new-feasible : IsFeasible g new
  new-feasible = record {
    picks = ex.picks;
    free = picked-from_in g.lines (λ l. l.fixed ≡ false) new (λ j l i arc. elim (ex.only j i) [
      | inl in' ↦
          let (u, v, take) = taken-free g w late steps t s way j in' in
          subst (λ (x : Line). x.fixed ≡ false) (one-arc g.lines j take.line l take.arc arc) take.free
      | inr (old, none) ↦ picked-in g.lines (λ x. x.fixed ≡ false) w.join k.join.free j l old arc
    ]);
    covers = covered;
  }

  new-equal : (j : ℕ) (l : Line) → IsArc g.lines j l → IsIn new j → at w.potential l.head ≡ at w.potential l.tail + at w.costs j
  new-equal j l arc i =
      elim (ex.only j i) [
        | inl in' ↦
            let (u, v, take) = taken-free g w late steps t s way j in' in
            subst (λ (x : Line). at w.potential x.head ≡ at w.potential x.tail + at w.costs j) (one-arc g.lines j take.line l take.arc arc) take.full
        | inr (old, none) ↦ k.equal j l arc old (λ same. omega (arith, occurs-same j late (arcs_left steps) (sym same)))
      ]

  -- where each level has pieces
  module _ (pieces_exist : (L : List Bool) → IsLevel g w.join L → (P : List (List Bool)) × ArePieces g w.join L P) where
    new-apart : (x y : ℕ) → x < length g.names → y < length g.names → at w.potential x < at w.potential y → AreSeparated g new y x
    new-apart x y x_in y_in less =
        let i = at w.potential y in
        let some : 1 ≤ i = omega arith in
        let L = level w.potential i in
        let lev = is-level g w late k i x y x_in less (omega arith) in
        let (P, pieces) = pieces_exist L lev in
        let same : (a b : ℕ) → at w.potential a ≡ at w.potential b → has L a ≡ has L b = λ a b eq. has-level w.potential i a some ∙ ap (leb i) eq ∙ sym (has-level w.potential i b some) in
        let tight = pieces-tight L lev.closed same P pieces in
        let between = pieces.separated y x (level-in w.potential i y some (omega arith)) x_in (level-out w.potential i x some less) in
        let (m, m_in, pass) = some-counted (λ U. has U y && not (has U x)) P [] between in
        let U = slice_index_or P m [] in
        let halves = and_parts (has U y) (not (has U x)) pass in (
          U,
          record {
            tight = record { closed = (pieces.tight m [] m_in).closed; once = tight m [] m_in };
            holds = halves.0;
            misses = not-true (has U x) halves.1;
          },
        )

    pub exchanged-kept : AllKept g (record { join = new; costs = w.costs; potential = w.potential })
    exchanged-kept = record {
      join = new-feasible;
      costs_long = k.costs_long;
      potential_long = k.potential_long;
      low = k.low;
      rises = k.rises;
      most = k.most;
      equal = λ j l arc i _. new-equal j l arc i;
      apart = new-apart;
    }
