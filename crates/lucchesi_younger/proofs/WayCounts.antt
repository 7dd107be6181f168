-- What a way of forcing steps changes at a closed side.
use Rattle.std.specs.Prelude.{ℕ, ◌≡◌, ◌+◌, Bool, false, List, [], ◌∷◌, count_by, refl}
use Rattle.std.proofs.Common.{ap, arith}
use Rattle.graph_core.specs.Graph.{GraphValue}
use Rattle.graph_core.specs.Side.{has}
use Rattle.graph_core.specs.Lines.{enters, leaves}
use Rattle.graph_core.specs.declared.graph.Line.{Line}
use Rattle.graph_core.proofs.Counting.{weight, passes, none-pass, All-slice_get}
use Rattle.problem_defs.specs.Dijoin.{IsClosed}
use Rattle.dicut_lattice.proofs.Pieces.{enters_is}
use Rattle.lucchesi_younger.specs.Kept.{IsArc}
use Rattle.lucchesi_younger.specs.Forcing.{Forces}
use Rattle.lucchesi_younger.specs.Ways.{IsWay, taken_by, left_by, jump_by, arcs_taken, arcs_left, jumps_of}
use Rattle.lucchesi_younger.proofs.Joins.{entered}
use Rattle.lucchesi_younger.proofs.Weighed.{count-option}
use Rattle.lucchesi_younger.specs.declared.work.By.{By}
use Rattle.lucchesi_younger.specs.declared.work.By.TheVariants.{Taken, Left, Jumped}
use Rattle.lucchesi_younger.specs.declared.work.Step.{Step}
use Rattle.lucchesi_younger.specs.declared.work.Work.{Work}

-- a closed side holds the head of an arc where it holds the tail or the arc enters it
pub closed_line : (g : GraphValue) (U : List Bool) → IsClosed g U → (j : ℕ) (l : Line) → IsArc g.lines j l → weight (has U l.head) ≡ weight (has U l.tail) + weight (enters U l)
closed_line g U c j l arc =
    omega (arith, enters_is (has U l.tail) (has U l.head) (All-slice_get (λ k. leaves U k ≡ false) g.lines (none-pass (leaves U) g.lines c.closed) j l arc))

module _ (g : GraphValue) (w : Work) (late : ℕ) (U : List Bool) (c : IsClosed g U) where
  step_count : (by : By) (u v : ℕ) → Forces g w late by u v → weight (has U u) + weight (passes (entered g U) (left_by by)) + weight (passes (λ p. has U p.0) (jump_by by u v)) ≡ weight (has U v) + weight (passes (entered g U) (taken_by by)) + weight (passes (λ p. has U p.1) (jump_by by u v))
  step_count (Taken j) u v h =
      rw (← h.from, ← h.to, h.arc) (let ends = closed_line g U c j h.line h.arc in omega arith)
  step_count (Left j) u v h =
      rw (← h.from, ← h.to, h.arc) (let ends = closed_line g U c j h.line h.arc in omega arith)
  step_count Jumped u v h = omega arith

  -- along a way from u to v
  pub way_count : (steps : List Step) (u v : ℕ) → IsWay g w late u v steps → weight (has U u) + count_by (entered g U) (arcs_left steps) + count_by (λ p. has U p.0) (jumps_of steps) ≡ weight (has U v) + count_by (entered g U) (arcs_taken steps) + count_by (λ p. has U p.1) (jumps_of steps)
  way_count [] u v e = rw e refl
  way_count (st ∷ rest) u v (leads, short, way) =
      let before = way_count rest u st.from way in
      let here = step_count st.by st.from st.to (rw leads.to leads.forces) in
      let to : weight (has U st.to) ≡ weight (has U v) = ap (λ x. weight (has U x)) leads.to in
      omega (
        arith,
        count-option (entered g U) (left_by st.by) (arcs_left rest),
        count-option (entered g U) (taken_by st.by) (arcs_taken rest),
        count-option (λ p. has U p.0) (jump_by st.by st.from st.to) (jumps_of rest),
        count-option (λ p. has U p.1) (jump_by st.by st.from st.to) (jumps_of rest),
      )
