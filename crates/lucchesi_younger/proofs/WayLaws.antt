-- The arcs and jumps of a way without shortcuts.
use Rattle.std.specs.Prelude.{ℕ, ◌≡◌, ◌<◌, ◌≤◌, List, [], ◌∷◌, ◌++◌, length, All, refl}
use Rattle.std.specs.List.{cons_option}
use Rattle.std.proofs.Common.{sym, ap, ◌∙◌, subst, arith, inl, inr}
use Rattle.std.proofs.lemmas.Bool.{cases_eq}
use Rattle.std.proofs.lemmas.List.Elements.{All-nil, All-cons, All-head, All-tail, All-push}
use Rattle.graph_core.specs.Graph.{GraphValue}
use Rattle.graph_core.specs.Picked.{occurrences}
use Rattle.graph_core.specs.declared.graph.Line.{Line}
use Rattle.dicut_lattice.specs.Tight.{IsAllowed, AreSeparated}
use Rattle.lucchesi_younger.specs.Kept.{at, IsArc, IsIn}
use Rattle.lucchesi_younger.specs.Forcing.{Forces, Takes, Leaves, IsUnforced}
use Rattle.lucchesi_younger.specs.Ways.{IsWay, Leads, taken_by, left_by, jump_by, arcs_taken, arcs_left, jumps_of}
use Rattle.lucchesi_younger.proofs.Joins.{occurs-same, occurs-other, one-arc}
use Rattle.lucchesi_younger.specs.declared.work.By.{By}
use Rattle.lucchesi_younger.specs.declared.work.By.TheVariants.{Taken, Left, Jumped}
use Rattle.lucchesi_younger.specs.declared.work.Step.{Step}
use Rattle.lucchesi_younger.specs.declared.work.Work.{Work}

module _ (g : GraphValue) (w : Work) (late : ℕ) where
  -- each step leads to its own end
  pub way_steps : (steps : List Step) (u v : ℕ) → IsWay g w late u v steps → All (λ st. Leads g w late st st.to) steps
  way_steps [] u v h = All-nil (λ st. Leads g w late st st.to)
  way_steps (st ∷ rest) u v (leads, short, way) =
      All-cons (λ r. Leads g w late r r.to) st rest (subst (λ x. Leads g w late st x) (sym leads.to) leads) (way_steps rest u st.from way)

  -- one step more at the start of the way
  pub way_push : (steps : List Step) (u v : ℕ) (st : Step) → IsWay g w late u v steps → Leads g w late st u → All (λ r. IsUnforced g w late st.from r.to) steps → IsWay g w late st.from v (steps ++ st ∷ [])
  way_push [] u v st e leads short = (subst (λ x. Leads g w late st x) e leads, All-nil (λ r. IsUnforced g w late r.from v), refl)
  way_push (r ∷ rest) u v st (lead, short, way) leads far =
      let here : IsUnforced g w late st.from v = subst (λ x. IsUnforced g w late st.from x) lead.to (All-head (λ q. IsUnforced g w late st.from q.to) r rest far) in (
        lead,
        All-push (λ q. IsUnforced g w late q.from v) rest st short here,
        way_push rest u r.from st way leads (All-tail (λ q. IsUnforced g w late st.from q.to) r rest far),
      )

  -- an arc that the steps take could be taken
  pub taken-free : (steps : List Step) (u v : ℕ) → IsWay g w late u v steps → (j : ℕ) → IsIn (arcs_taken steps) j → (x : ℕ) × (y : ℕ) × Takes g w j x y
  taken-free [] u v h j i = absurd (omega arith)
  taken-free (st ∷ rest) u v (leads, short, way) j i = first (taken-free rest u st.from way j) st.by leads.forces i
    where
      first : (IsIn (arcs_taken rest) j → (x : ℕ) × (y : ℕ) × Takes g w j x y) → (by : By) → Forces g w late by st.from v → IsIn (cons_option (taken_by by) (arcs_taken rest)) j → (x : ℕ) × (y : ℕ) × Takes g w j x y
      first later (Taken k) f i' =
          elim (cases_eq k j) [
            | inl e ↦ (st.from, v, subst (λ x. Takes g w x st.from v) e f)
            | inr ne ↦ later (omega (arith, occurs-other j k (arcs_taken rest) ne))
          ]
      first later (Left k) f i' = later i'
      first later Jumped f i' = later i'

  -- an arc that no earlier node may force with its head isn't left before
  left_none : (rest : List Step) (v j x : ℕ) → All (λ r. IsUnforced g w late r.from v) rest → All (λ r. Leads g w late r r.to) rest → Leaves g w late j x v → occurrences j (arcs_left rest) ≡ 0
  left_none [] v j x short steps h = refl
  left_none (r ∷ rest) v j x short steps h =
      first
      (left_none rest v j x (All-tail (λ q. IsUnforced g w late q.from v) r rest short) (All-tail (λ q. Leads g w late q q.to) r rest steps) h)
      r.by (All-head (λ q. Leads g w late q q.to) r rest steps).forces
    where
      first : occurrences j (arcs_left rest) ≡ 0 → (by : By) → Forces g w late by r.from r.to → occurrences j (cons_option (left_by by) (arcs_left rest)) ≡ 0
      first later (Taken k) f = later
      first later (Left k) f =
          elim (cases_eq k j) [
            | inl e ↦
                let same : f.line ≡ h.line = one-arc g.lines j f.line h.line (subst (λ i. IsArc g.lines i f.line) e f.arc) h.arc in
                absurd ((All-head (λ q. IsUnforced g w late q.from v) r rest short).leaves j
                (record { line = h.line; arc = h.arc; taken = h.taken; other = h.other; from = ap (λ (l : Line). l.tail) (sym same) ∙ f.from; to = h.to }))
            | inr ne ↦ occurs-other j k (arcs_left rest) ne ∙ later
          ]
      first later Jumped f = later

  -- the arcs that the steps leave are different arcs of the dijoin, and not the late one
  pub left-once : (steps : List Step) (u v : ℕ) → IsWay g w late u v steps → (j : ℕ) → (occurrences j (arcs_left steps) ≤ 1) × (IsIn (arcs_left steps) j → IsIn w.join j × (j ≡ late → ⊥))
  left-once [] u v h j = (omega arith, λ i. absurd (omega arith))
  left-once (st ∷ rest) u v (leads, short, way) j = first (left-once rest u st.from way j) st.by leads.forces
    where
      first : (occurrences j (arcs_left rest) ≤ 1) × (IsIn (arcs_left rest) j → IsIn w.join j × (j ≡ late → ⊥)) → (by : By) → Forces g w late by st.from v → (occurrences j (cons_option (left_by by) (arcs_left rest)) ≤ 1) × (IsIn (cons_option (left_by by) (arcs_left rest)) j → IsIn w.join j × (j ≡ late → ⊥))
      first later (Taken k) f = later
      first later (Left k) f =
          elim (cases_eq k j) [
            | inl e ↦
                let h : Leaves g w late j st.from v = subst (λ i. Leaves g w late i st.from v) e f in
                let none = left_none rest v j st.from short (way_steps rest u st.from way) h in
                (omega (arith, occurs-same j k (arcs_left rest) e), λ i. (h.taken, h.other))
            | inr ne ↦
                (omega (arith, occurs-other j k (arcs_left rest) ne, later.0), λ i. later.1 (omega (arith, occurs-other j k (arcs_left rest) ne)))
          ]
      first later Jumped f = later

  -- each jump is allowed, between nodes of one potential
  pub record IsJump (p : ℕ × ℕ) : Type 0 where
    pub x_in : p.0 < length g.names
    pub y_in : p.1 < length g.names
    pub equal : at w.potential p.0 ≡ at w.potential p.1
    pub allowed : IsAllowed g w.join p.0 p.1

  pub way_jumps : (steps : List Step) (u v : ℕ) → IsWay g w late u v steps → All IsJump (jumps_of steps)
  way_jumps [] u v h = All-nil IsJump
  way_jumps (st ∷ rest) u v (leads, short, way) = first (way_jumps rest u st.from way) st.by (subst (λ x. Forces g w late st.by st.from x) (sym leads.to) leads.forces)
    where
      first : All IsJump (jumps_of rest) → (by : By) → Forces g w late by st.from st.to → All IsJump (cons_option (jump_by by st.from st.to) (jumps_of rest))
      first later (Taken k) f = later
      first later (Left k) f = later
      first later Jumped f =
          All-cons IsJump (st.to, st.from) (jumps_of rest)
          (record { x_in = subst (λ x. x < length g.names) (sym leads.to) leads.to_in; y_in = leads.from_in; equal = sym f.equal; allowed = f.allowed })
          later

  -- a jump and an earlier one on the way, of one potential, are separated
  abbrev pub InTurn : ℕ × ℕ → ℕ × ℕ → Type 0
  InTurn p q = at w.potential p.0 ≡ at w.potential q.1 → AreSeparated g w.join q.1 p.0

  abbrev pub AreInTurn : List (ℕ × ℕ) → Type 0
  AreInTurn [] = Unit {0}
  AreInTurn (p ∷ ps) = All (InTurn p) ps × AreInTurn ps

  jumps_after : (rest : List Step) (x : ℕ) (v : ℕ) → All (λ r. IsUnforced g w late r.from v) rest → All (InTurn (v, x)) (jumps_of rest)
  jumps_after [] x v short = All-nil (InTurn (v, x))
  jumps_after (r ∷ rest) x v short = first (jumps_after rest x v (All-tail (λ q. IsUnforced g w late q.from v) r rest short)) r.by
    where
      first : All (InTurn (v, x)) (jumps_of rest) → (by : By) → All (InTurn (v, x)) (cons_option (jump_by by r.from r.to) (jumps_of rest))
      first later (Taken k) = later
      first later (Left k) = later
      first later Jumped =
          All-cons (InTurn (v, x)) (r.to, r.from) (jumps_of rest)
          (λ e. (All-head (λ q. IsUnforced g w late q.from v) r rest short).apart (sym e))
          later

  pub way_in_turn : (steps : List Step) (u v : ℕ) → IsWay g w late u v steps → AreInTurn (jumps_of steps)
  way_in_turn [] u v h = tt
  way_in_turn (st ∷ rest) u v (leads, short, way) = first (way_in_turn rest u st.from way) st.by
    where
      first : AreInTurn (jumps_of rest) → (by : By) → AreInTurn (cons_option (jump_by by st.from st.to) (jumps_of rest))
      first later (Taken k) = later
      first later (Left k) = later
      first later Jumped = (jumps_after rest st.from st.to (subst (λ x. All (λ r. IsUnforced g w late r.from x) rest) (sym leads.to) short), later)
