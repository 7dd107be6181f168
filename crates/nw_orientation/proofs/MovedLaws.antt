-- A side, its edges and its degree, when a node is taken out of the graph.
use Rattle.std.specs.Prelude.{ℕ, ◌≡◌, ◌≢◌, ◌+◌, ◌<◌, ◌≤◌, ◌==◌, Bool, true, false, not, ◌||◌, cond, List, count_by, All, refl}
use Rattle.std.proofs.Common.{sym, ap, ◌∙◌, arith, inl, inr}
use Rattle.std.proofs.lemmas.Bool.{false≢true, cases_eq, eqb-true, eq-eqb, ne_eqb, not-true, not-false, or_right}
use Rattle.std.proofs.lemmas.List.{length-map}
use Rattle.std.proofs.lemmas.List.Elements.{All-weaker}
use Rattle.graph_core.specs.Graph.{Fits}
use Rattle.graph_core.specs.Lines.{crosses, differ, degree}
use Rattle.graph_core.specs.Side.{has}
use Rattle.graph_core.proofs.CutLaws.{differ_sym}
use Rattle.graph_core.proofs.Counting.{weight, sum_by-agree, All-both}
use Rattle.graph_core.proofs.FamilyLaws.{count_by-map}
use Rattle.graph_core.specs.declared.graph.Line.{Line}
use Rattle.nw_orientation.specs.Chosen.{chosen}
use Rattle.nw_orientation.specs.Moved.{moved, moved_line, touches, other_end, apart_marks, others, spokes, spoke_ends}
use Rattle.nw_orientation.specs.SplitOff.{IsSpoke}
use Rattle.nw_orientation.proofs.ChosenLaws.{count-chosen, All-chosen, chosen_pass, chosen_fail}
use Rattle.graph_core.specs.Sets.{set_of}
use Rattle.graph_core.proofs.SetLaws.{has_of}

-- a test of the nodes, as a side of those that are left
abbrev pub left : ℕ → ℕ → (ℕ → Bool) → List Bool
left z q f = set_of q (λ v. f (cond (v == z) q v))

same : (x : ℕ) → (x == x) ≡ true
same x = eq-eqb x x refl

pub moved_below : (z q v : ℕ) → z ≤ q → v ≤ q → v ≢ z → moved z q v < q
moved_below z q v lz lv ne = elim (cases_eq v q) [
  | inl e ↦ rw (e, same q) (omega (arith))
  | inr other ↦ rw (ne_eqb v q other) (omega arith)
]

pub has-left : (z q : ℕ) (f : ℕ → Bool) (v : ℕ) → z ≤ q → v ≤ q → v ≢ z → has (left z q f) (moved z q v) ≡ f v
has-left z q f v lz lv ne =
    has_of q (λ u. f (cond (u == z) q u)) (moved z q v) (moved_below z q v lz lv ne) ∙ ap f (back v ne)
  where
    back : (u : ℕ) → u ≢ z → cond (moved z q u == z) q (moved z q u) ≡ u
    back u ne = elim (cases_eq u q) [
      | inl e ↦ rw (e, same q, same z) refl
      | inr other ↦ rw (ne_eqb u q other, ne_eqb u z ne) refl
    ]

-- lines that don't touch z keep their ends
pub record IsApart (z q : ℕ) (l : Line) : Type 0 where
  pub tail : l.tail ≤ q
  pub head : l.head ≤ q
  pub tail_not : l.tail ≢ z
  pub head_not : l.head ≢ z
  pub two : l.tail ≢ l.head

pub apart_from : (z q : ℕ) (l : Line) → Fits (q + 1) l → touches z l ≡ false → IsApart z q l
apart_from z q l f h = record {
  tail = omega (arith, f.tail);
  head = omega (arith, f.head);
  tail_not = λ e. false≢true (sym h ∙ rw (e, same z) refl);
  head_not = λ e. false≢true (sym h ∙ rw (e, same z) (or_right (l.tail == z) true refl));
  two = f.apart;
}

pub far_apart : (z q : ℕ) (ls : List Line) → All (Fits (q + 1)) ls → All (IsApart z q) (chosen true ls (apart_marks z ls))
far_apart z q ls fits =
    All-both (Fits (q + 1)) (λ l. not (touches z l) ≡ true) (IsApart z q) (λ l f h. apart_from z q l f (not-true (touches z l) h)) (chosen true ls (apart_marks z ls)) (All-chosen (Fits (q + 1)) true ls (apart_marks z ls) fits) (chosen_pass (λ l. not (touches z l)) ls)

pub near_touch : (z q : ℕ) (ls : List Line) → All (Fits (q + 1)) ls → All (IsSpoke z q) (spokes z ls)
near_touch z q ls fits =
    All-both (Fits (q + 1)) (λ l. not (touches z l) ≡ false) (IsSpoke z q) (λ l f h. record { fits = f; touching = not-false (touches z l) h }) (spokes z ls) (All-chosen (Fits (q + 1)) false ls (apart_marks z ls) fits) (chosen_fail (λ l. not (touches z l)) ls)

module _ (z q : ℕ) (lz : z ≤ q) where
  pub tail-left : (f : ℕ → Bool) (l : Line) → IsApart z q l → has (left z q f) (moved_line z q l).tail ≡ f l.tail
  tail-left f l a = has-left z q f l.tail lz a.tail a.tail_not

  pub head-left : (f : ℕ → Bool) (l : Line) → IsApart z q l → has (left z q f) (moved_line z q l).head ≡ f l.head
  head-left f l a = has-left z q f l.head lz a.head a.head_not

  pub Fits-moved : (l : Line) → IsApart z q l → Fits q (moved_line z q l)
  Fits-moved l a =
      let f : ℕ → Bool = λ u. u == l.tail in
      record {
        tail = moved_below z q l.tail lz a.tail a.tail_not;
        head = moved_below z q l.head lz a.head a.head_not;
        apart = λ e. false≢true (sym (ne_eqb l.head l.tail (λ h. a.two (sym h))) ∙ sym (head-left f l a) ∙ ap (has (left z q f)) (sym e) ∙ tail-left f l a ∙ same l.tail);
      }

  -- the nodes that X puts on the other side than z
  abbrev pub across : List Bool → List Bool
  across X = left z q (λ v. differ (has X z) (has X v))

  pub crosses-across : (X : List Bool) (l : Line) → IsApart z q l → crosses (across X) (moved_line z q l) ≡ crosses X l
  crosses-across X l a =
      rw (tail-left (λ v. differ (has X z) (has X v)) l a, head-left (λ v. differ (has X z) (has X v)) l a) (differ_twice (has X z) (has X l.tail) (has X l.head))
    where
      differ_twice : (a b c : Bool) → differ (differ a b) (differ a c) ≡ differ b c
      differ_twice a b c = grind arith

  pub spoke-across : (X : List Bool) (l : Line) → Fits (q + 1) l → touches z l ≡ true → has (across X) (moved z q (other_end z l)) ≡ crosses X l
  spoke-across X l f h =
      let test : ℕ → Bool = λ v. differ (has X z) (has X v) in
      elim (cases_eq l.tail z) [
        | inl e ↦
            rw (e, same z) (has-left z q test l.head lz (omega (arith, f.head)) (λ h. f.apart (e ∙ sym h)))
        | inr ne ↦
            let head : l.head ≡ z = at_head l.tail l.head ne h in
            rw (ne_eqb l.tail z ne) (has-left z q test l.tail lz (omega (arith, f.tail)) ne ∙ rw head (differ_sym (has X z) (has X l.tail)))
      ]
    where
      at_head : (t h : ℕ) → t ≢ z → ((t == z) || (h == z)) ≡ true → h ≡ z
      at_head t h ne e = eqb-true h z (rw (ne_eqb t z ne) at e)

  -- degrees, by the lines that are left and the ends of the others
  pub degree-across : (X : List Bool) (ls : List Line) → All (Fits (q + 1)) ls → degree X ls ≡ degree (across X) (others z q ls) + count_by (has (across X)) (spoke_ends z q ls)
  degree-across X ls fits =
      let ms = apart_marks z ls in
      let R = across X in
      let far = chosen true ls ms in
      let near = chosen false ls ms in
      omega (
        arith,
        count-chosen (crosses X) ls ms (length-map ls (λ l. not (touches z l))),
        count_by-map (crosses R) (moved_line z q) far,
        count_by-map (has R) (λ l. moved z q (other_end z l)) near,
        sum_by-agree (λ l. weight (crosses X l)) (λ l. weight (crosses R (moved_line z q l))) far (All-weaker (IsApart z q) (λ l. weight (crosses X l) ≡ weight (crosses R (moved_line z q l))) (λ l a. ap weight (sym (crosses-across X l a))) far (far_apart z q ls fits)),
        sum_by-agree (λ l. weight (crosses X l)) (λ l. weight (has R (moved z q (other_end z l)))) near (All-weaker (IsSpoke z q) (λ l. weight (crosses X l) ≡ weight (has R (moved z q (other_end z l)))) (λ l a. ap weight (sym (spoke-across X l a.fits a.touching))) near (near_touch z q ls fits)),
      )

-- the other end of a spoke
pub other_is : (z q : ℕ) (l : Line) → IsSpoke z q l → (other_end z l ≤ q) × (other_end z l ≢ z)
other_is z q l s = elim (cases_eq l.tail z) [
  | inl e ↦ rw (e, same z) (omega (arith, s.fits.head), λ h. s.fits.apart (e ∙ sym h))
  | inr ne ↦ rw (ne_eqb l.tail z ne) (omega (arith, s.fits.tail), ne)
]
