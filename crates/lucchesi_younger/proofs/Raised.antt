-- The potential rises by one at each node that is forced.
use Rattle.std.specs.Prelude.{ℕ, ◌≡◌, ◌+◌, ◌<◌, ◌≤◌, Bool, true, false, List, length, All, refl}
use Rattle.std.proofs.Common.{ap, ◌∙◌, subst, arith, inl, inr}
use Rattle.std.proofs.lemmas.Bool.{cases_Bool, cases_eq, cases_lt}
use Rattle.graph_core.specs.Graph.{GraphValue, Fits}
use Rattle.graph_core.specs.Side.{has}
use Rattle.graph_core.specs.declared.graph.Line.{Line}
use Rattle.graph_core.proofs.Counting.{weight, All-slice_get}
use Rattle.graph_core.proofs.SizeLaws.{weight_true, weight_false, weight_most}
use Rattle.dicut_lattice.specs.Tight.{AreSeparated}
use Rattle.lucchesi_younger.specs.Kept.{at, IsArc, IsIn, IsKept, AllKept, IsLate}
use Rattle.lucchesi_younger.specs.Search.{IsShut}
use Rattle.lucchesi_younger.proofs.Joins.{picked-in, one-arc}
use Rattle.lucchesi_younger.proofs.WayCounts.{closed_line}
use Rattle.lucchesi_younger.specs.declared.work.Work.{Work}

module _ (g : GraphValue) (fits : All (Fits (length g.names)) g.lines) (w : Work) (late s t : ℕ) (k : IsKept g w late) (e : IsLate g w late s t) (side : List Bool) (shut : IsShut g w late side) (in_t : has side t ≡ true) (out_s : has side s ≡ false) where
  module _ (j : ℕ) (l : Line) (arc : IsArc g.lines j l) where
    ends : Fits (length g.names) l
    ends = All-slice_get (Fits (length g.names)) g.lines fits j l arc

    -- no tight side separates the tail from the head
    never_apart : has side l.tail ≡ true → has side l.head ≡ false → at w.potential l.tail ≡ at w.potential l.head → ⊥
    never_apart in' out same =
        let (U, sep) = (shut l.tail l.head in' ends.head out).apart same in
        omega (arith, closed_line g U sep.tight.closed j l arc, weight_true (has U l.tail) sep.holds, weight_false (has U l.head) sep.misses)

    -- an arc that may be taken and rises by its cost forces its tail with its head
    never_full : l.fixed ≡ false → has side l.head ≡ true → has side l.tail ≡ false → at w.potential l.head ≡ at w.potential l.tail + at w.costs j → ⊥
    never_full free in' out full = (shut l.head l.tail in' ends.tail out).takes j (record { line = l; arc = arc; free = free; full = full; from = refl; to = refl })

    -- an arc of the dijoin that isn't late forces its head with its tail
    never_left : IsIn w.join j → (j ≡ late → ⊥) → has side l.tail ≡ true → has side l.head ≡ false → ⊥
    never_left i other in' out = (shut l.tail l.head in' ends.head out).leaves j (record { line = l; arc = arc; taken = i; other = other; from = refl; to = refl })

  module _ (p : List ℕ) (long : length p ≡ length g.names) (new : (v : ℕ) → at p v ≡ at w.potential v + weight (has side v)) where
    inside : (v : ℕ) → has side v ≡ true → at p v ≡ at w.potential v + 1
    inside v h = omega (arith, new v, weight_true (has side v) h)

    outside : (v : ℕ) → has side v ≡ false → at p v ≡ at w.potential v
    outside v h = omega (arith, new v, weight_false (has side v) h)

    raised-rises : (j : ℕ) (l : Line) → IsArc g.lines j l → at p l.tail ≤ at p l.head
    raised-rises j l arc =
        let was = k.rises j l arc in
        elim (cases_Bool (has side l.tail)) [
          | inr out ↦ omega (arith, outside l.tail out, new l.head)
          | inl in' ↦ elim (cases_Bool (has side l.head)) [
            | inl both ↦ omega (arith, inside l.tail in', inside l.head both)
            | inr out ↦ elim (cases_lt (at w.potential l.tail) (at w.potential l.head)) [
              | inl less ↦ omega (arith, inside l.tail in', outside l.head out)
              | inr more ↦ absurd (never_apart j l arc in' out (omega arith))
            ]
          ]
        ]

    raised-most : (j : ℕ) (l : Line) → IsArc g.lines j l → l.fixed ≡ false → at p l.head ≤ at p l.tail + at w.costs j
    raised-most j l arc free =
        let was = k.most j l arc free in
        elim (cases_Bool (has side l.head)) [
          | inr out ↦ omega (arith, outside l.head out, new l.tail)
          | inl in' ↦ elim (cases_Bool (has side l.tail)) [
            | inl both ↦ omega (arith, inside l.head in', inside l.tail both)
            | inr out ↦ elim (cases_eq (at w.potential l.head) (at w.potential l.tail + at w.costs j)) [
              | inl full ↦ absurd (never_full j l arc free in' out full)
              | inr less ↦ omega (arith, inside l.head in', outside l.tail out)
            ]
          ]
        ]

    raised-equal : (j : ℕ) (l : Line) → IsArc g.lines j l → IsIn w.join j → at p l.head ≡ at p l.tail + at w.costs j
    raised-equal j l arc i =
        elim (cases_eq j late) [
          | inl is ↦
              let same : l ≡ e.line = one-arc g.lines late l e.line (subst (λ x. IsArc g.lines x l) is arc) e.arc in
              let tail : l.tail ≡ s = ap (λ (x : Line). x.tail) same ∙ e.tail in
              let head : l.head ≡ t = ap (λ (x : Line). x.head) same ∙ e.head in
              let behind = e.behind in
              rw (head, tail, is) (omega (arith, inside t in_t, outside s out_s))
          | inr other ↦
              let was = k.equal j l arc i other in
              let free = picked-in g.lines (λ x. x.fixed ≡ false) w.join k.join.free j l i arc in
              elim (cases_Bool (has side l.tail)) [
                | inl in' ↦ elim (cases_Bool (has side l.head)) [
                  | inl both ↦ omega (arith, inside l.tail in', inside l.head both)
                  | inr out ↦ absurd (never_left j l arc i other in' out)
                ]
                | inr out ↦ elim (cases_Bool (has side l.head)) [
                  | inl in' ↦ absurd (never_full j l arc free in' out was)
                  | inr neither ↦ omega (arith, outside l.tail out, outside l.head neither)
                ]
              ]
        ]

    raised-apart : (x y : ℕ) → x < length g.names → y < length g.names → at p x < at p y → AreSeparated g w.join y x
    raised-apart x y x_in y_in less =
        elim (cases_lt (at w.potential x) (at w.potential y)) [
          | inl was ↦ k.apart x y x_in y_in was
          | inr more ↦ elim (cases_Bool (has side y)) [
            | inr out ↦ absurd (omega (arith, outside y out, new x))
            | inl in' ↦ elim (cases_Bool (has side x)) [
              | inl both ↦ absurd (omega (arith, inside y in', inside x both))
              | inr out ↦ (shut y x in' x_in out).apart (omega (arith, inside y in', outside x out))
            ]
          ]
        ]

    pub raised-kept : AllKept g (record { join = w.join; costs = w.costs; potential = p })
    raised-kept = record {
      join = k.join;
      costs_long = k.costs_long;
      potential_long = long;
      low = λ v. (let room = e.room v in omega (arith, new v, weight_most (has side v)));
      rises = raised-rises;
      most = raised-most;
      equal = λ j l arc i _. raised-equal j l arc i;
      apart = raised-apart;
    }
