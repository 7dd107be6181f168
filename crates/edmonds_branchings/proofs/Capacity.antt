-- Laws of the capacity that leaves a side.
use Rattle.std.specs.Prelude.{ℕ, ◌≡◌, ◌+◌, ◌-◌, ◌<◌, ◌≤◌, Bool, true, false, ◌&&◌, ◌||◌, List, length, refl}
use Rattle.std.proofs.Common.{ap, inl, inr, arith}
use Rattle.std.proofs.lemmas.Bool.{cases_lt, cases_eq}
use Rattle.std.proofs.lemmas.List.{get_or_past, get_or-set_same, get_or-set_other}
use Rattle.std.proofs.lemmas.List.Sums.{sum_by-set}
use Rattle.graph_core.specs.Side.{has, meet, join}
use Rattle.graph_core.proofs.SideLaws.{has-zip2}
use Rattle.graph_core.proofs.LineLaws.{two_sums-le}
use Rattle.flow_cuts.specs.declared.network.Cap.{Cap}
use Rattle.flow_cuts.specs.Network.{across, leaving, capacity}
use Rattle.edmonds_branchings.specs.Network.{no_arc, cap_at, taken}

across_meets : (a b c d : Bool) (r : ℕ) → across (a && c) (b && d) r + across (a || c) (b || d) r ≤ across a b r + across c d r
across_meets a b c d r = grind arith

-- capacity is submodular
pub capacity_meets : (arcs : List Cap) (X Y : List Bool) → length X ≡ length Y → capacity (meet X Y) arcs + capacity (join X Y) arcs ≤ capacity X arcs + capacity Y arcs
capacity_meets arcs X Y e =
    two_sums-le (leaving (meet X Y)) (leaving (join X Y)) (leaving X) (leaving Y)
    (λ a. rw (has-zip2 ◌&&◌ refl X Y a.tail e, has-zip2 ◌&&◌ refl X Y a.head e, has-zip2 ◌||◌ refl X Y a.tail e, has-zip2 ◌||◌ refl X Y a.head e)
    (across_meets (has X a.tail) (has X a.head) (has Y a.tail) (has Y a.head) a.cap))
    arcs

-- an arc that is left is there
pub left_within : (arcs : List Cap) (j : ℕ) → 0 < (cap_at arcs j).cap → j < length arcs
left_within arcs j left =
    elim (cases_lt j (length arcs)) [
      | inl l ↦ l
      | inr past ↦ let none : (cap_at arcs j).cap ≡ 0 = ap (λ a. a.cap) (get_or_past arcs j no_arc past) in absurd (omega arith)
    ]

across_less : (a b : Bool) (r : ℕ) → 0 < r → across a b (r - 1) + across a b 1 ≡ across a b r
across_less true true r h = refl
across_less true false r h = omega arith
across_less false b r h = refl

module _ (arcs : List Cap) (j : ℕ) (left : 0 < (cap_at arcs j).cap) where
  -- the sides that the arc leaves have one less
  pub capacity-taken : (X : List Bool) → capacity X (taken arcs j) + across (has X (cap_at arcs j).tail) (has X (cap_at arcs j).head) 1 ≡ capacity X arcs
  capacity-taken X =
      let a = cap_at arcs j in
      omega (
        arith,
        sum_by-set (leaving X) arcs j (record a { cap = a.cap - 1 }) no_arc (left_within arcs j left),
        across_less (has X a.tail) (has X a.head) a.cap left,
      )

  pub tail-taken : (i : ℕ) → (cap_at (taken arcs j) i).tail ≡ (cap_at arcs i).tail
  tail-taken i =
      elim (cases_eq i j) [
        | inl e ↦ rw e (ap (λ a. a.tail) (get_or-set_same arcs j (record (cap_at arcs j) { cap = (cap_at arcs j).cap - 1 }) no_arc (left_within arcs j left)))
        | inr ne ↦ ap (λ a. a.tail) (get_or-set_other arcs j i (record (cap_at arcs j) { cap = (cap_at arcs j).cap - 1 }) no_arc ne)
      ]

  pub head-taken : (i : ℕ) → (cap_at (taken arcs j) i).head ≡ (cap_at arcs i).head
  head-taken i =
      elim (cases_eq i j) [
        | inl e ↦ rw e (ap (λ a. a.head) (get_or-set_same arcs j (record (cap_at arcs j) { cap = (cap_at arcs j).cap - 1 }) no_arc (left_within arcs j left)))
        | inr ne ↦ ap (λ a. a.head) (get_or-set_other arcs j i (record (cap_at arcs j) { cap = (cap_at arcs j).cap - 1 }) no_arc ne)
      ]
