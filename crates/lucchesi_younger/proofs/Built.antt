-- The pieces of all levels are as many as the cost of the dijoin.
use Rattle.std.specs.Prelude.{ℕ, ◌≡◌, ◌+◌, ◌<◌, ◌≤◌, true, false, Bool, not, ◌&&◌, List, [], ◌++◌, length, sum_by, count_by, min, All, refl}
use Rattle.std.proofs.Common.{leb, sym, ap, ◌∙◌, arith, inl, inr}
use Rattle.std.proofs.lemmas.Bool.{cases_lt, cases_Bool, leb-true, leb-false}
use Rattle.std.proofs.lemmas.List.{length-map}
use Rattle.std.proofs.lemmas.List.Sums.{sum_by-append}
use Rattle.std.proofs.lemmas.List.Elements.{All-nil, All-append, All-weaker}
use Rattle.graph_core.specs.Graph.{GraphValue, Fits}
use Rattle.graph_core.specs.Side.{has, IsProper}
use Rattle.graph_core.specs.Lines.{enters}
use Rattle.graph_core.specs.declared.graph.Line.{Line}
use Rattle.graph_core.proofs.Counting.{weight, passes, sum_by-agree, sum_by-ones, sum_by-swap, count_by-picked, All-slice_get}
use Rattle.problem_defs.specs.Dijoin.{IsClosed}
use Rattle.dicut_lattice.specs.Tight.{joins, IsTight}
use Rattle.dicut_lattice.specs.Level.{IsLevel, ArePieces, entered_by}
use Rattle.dicut_lattice.proofs.ClosedSides.{has-inside, never_out}
use Rattle.dicut_lattice.proofs.Pieces.{enters_is}
use Rattle.graph_core.proofs.ProperLaws.{is_proper}
use Rattle.graph_core.proofs.SideLaws.{same_sides}
use Rattle.lucchesi_younger.specs.Kept.{at, IsArc, IsIn, IsKept, level, IsSolved, IsBuilt}
use Rattle.lucchesi_younger.proofs.Joins.{entered, All-from_in, All-in, picked-in, arc-at}
use Rattle.lucchesi_younger.proofs.Levels.{has-level, level-in, level-out, in-level, out-level, is-level}
use Rattle.lucchesi_younger.proofs.Weighed.{All-from_at}
use Rattle.lucchesi_younger.specs.declared.work.Work.{Work}

min-next : (p i : ℕ) → min p (i + 1) ≡ min p i + weight (leb (i + 1) p)
min-next p i =
    elim (cases_Bool (leb (i + 1) p)) [
      | inl more ↦ rw more (let l = leb-true (i + 1) p more in omega arith)
      | inr less ↦ rw less (let l = leb-false (i + 1) p less in omega arith)
    ]

enters_none : (t h : Bool) → (t ≡ false → h ≡ true → ⊥) → 0 ≡ weight (h && not t)
enters_none true true never = refl
enters_none true false never = refl
enters_none false true never = absurd (never refl refl)
enters_none false false never = refl

-- the levels above one potential up to the next are the same
pub level-same : (p : List ℕ) (below i : ℕ) → ((v : ℕ) → below < at p v → i ≤ at p v) → below < i → level p i ≡ level p (below + 1)
level-same p below i none more =
    let long : (j : ℕ) → length (level p j) ≡ length p = λ j. length-map p (λ x. leb j x) in
    same_sides (level p i) (level p (below + 1)) (long i) (long (below + 1)) (λ v l. elim (cases_lt below (at p v)) [
      | inl high ↦ level-in p i v (omega arith) (none v high) ∙ sym (level-in p (below + 1) v (omega arith) (omega arith))
      | inr low ↦ level-out p i v (omega arith) (omega arith) ∙ sym (level-out p (below + 1) v (omega arith) (omega arith))
    ])

module _ (g : GraphValue) (fits : All (Fits (length g.names)) g.lines) (w : Work) (late : ℕ) (k : IsKept g w late) where
  -- a level that is proper is one that has pieces
  pub proper-level : (i : ℕ) → 1 ≤ i → IsProper (length g.names) (level w.potential i) → IsLevel g w.join (level w.potential i)
  proper-level i some p =
      let L = level w.potential i in
      let (y, y_in, inside) = p.some_in in
      let (x, x_in, out) = p.some_out in
      is-level g w late k i x y (omega (arith, p.long)) (out-level w.potential i x some out) (in-level w.potential i y some (has-inside L y y_in inside))

  -- no arc enters a level that isn't proper, and it parts no two nodes
  pub no-pieces : (L : List Bool) → length L ≡ length g.names → (IsProper (length g.names) L → ⊥) → ArePieces g w.join L []
  no-pieces L long improper = record {
    tight = All-nil (IsTight g w.join);
    entered = All-from_at (λ l. entered_by l [] ≡ weight (enters L l)) g.lines (λ j l arc.
        let ends = All-slice_get (Fits (length g.names)) g.lines fits j l arc in
        enters_none (has L l.tail) (has L l.head) (λ out in'. improper (is_proper L l.head l.tail long in' ends.tail out)));
    separated = λ y x in_y x_in out. absurd (improper (is_proper L y x long in_y x_in out));
  }

  module _ (i : ℕ) (sides : List (List Bool)) (b : IsBuilt g w i sides) where
    -- the pieces of the next level join
    pub built-more : (P : List (List Bool)) → ArePieces g w.join (level w.potential (i + 1)) P → IsBuilt g w (i + 1) (sides ++ P)
    built-more P pieces = record {
      tight = All-append (IsTight g w.join) sides P b.tight pieces.tight;
      entered = λ j l arc.
          let L = level w.potential (i + 1) in
          let was = b.entered j l arc in
          let rise = k.rises j l arc in
          let new = All-slice_get (λ x. entered_by x P ≡ weight (enters L x)) g.lines pieces.entered j l arc in
          let in_too = never_out (has L l.tail) (has L l.head) (λ in'. let least = in-level w.potential (i + 1) l.tail (omega arith) in' in level-in w.potential (i + 1) l.head (omega arith) (omega arith)) in
          let ends = enters_is (has L l.tail) (has L l.head) in_too in
          omega (
            arith,
            sum_by-append (λ U. weight (enters U l)) sides P,
            min-next (at w.potential l.tail) i,
            min-next (at w.potential l.head) i,
            ap weight (has-level w.potential (i + 1) l.tail (omega arith)),
            ap weight (has-level w.potential (i + 1) l.head (omega arith)),
          );
    }

    -- at the end
    pub solved : late ≡ length g.lines → ((v : ℕ) → at w.potential v ≤ i) → (costs : List ℕ) → ((j : ℕ) (l : Line) → IsArc g.lines j l → l.fixed ≡ false → at w.costs j ≡ at costs j) → IsSolved g costs w.join sides
    solved none high costs reached = record {
      feasible = k.join;
      members = All-weaker (IsTight g w.join) (IsClosed g) (λ U tight. tight.closed) sides b.tight;
      apart = λ j l arc free. (let most = k.most j l arc free in omega (arith, rise j l arc, reached j l arc free));
      equal = sum_by-agree (at costs) (λ j. count_by (λ U. entered g U j) sides) w.join (All-from_in (λ j. at costs j ≡ count_by (λ U. entered g U j) sides) w.join cost)
          ∙ sum_by-swap (λ j U. weight (entered g U j)) w.join sides
          ∙ (λ t. sum_by (λ U. sym (count_by-picked (enters U) g.lines w.join) t) sides)
          ∙ sum_by-ones (joins g w.join) sides (All-weaker (IsTight g w.join) (λ U. joins g w.join U ≡ 1) (λ U tight. tight.once) sides b.tight);
    }
      where
        rise : (j : ℕ) (l : Line) → IsArc g.lines j l → entered_by l sides + at w.potential l.tail ≡ at w.potential l.head
        rise j l arc = (let was = b.entered j l arc in let tail = high l.tail in let head = high l.head in omega arith)

        cost : (j : ℕ) → IsIn w.join j → at costs j ≡ count_by (λ U. entered g U j) sides
        cost j in' =
            let below = All-in (λ i. i < length g.lines) w.join k.join.picks.in_range j in' in
            let (l, arc) = arc-at g.lines j below in
            let full = k.equal j l arc in' (λ e. omega arith) in
            let free = picked-in g.lines (λ x. x.fixed ≡ false) w.join k.join.free j l in' arc in
            let same : count_by (λ U. entered g U j) sides ≡ entered_by l sides = ap (λ o. count_by (λ U. passes (enters U) o) sides) arc in
            omega (arith, rise j l arc, reached j l arc free)
