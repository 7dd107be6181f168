-- Joining a least side with a stored side at t whose first node it holds, or taking away one whose first node it misses, leaves a least side.
use Rattle.std.specs.Prelude.{ℕ, ◌≡◌, ◌≢◌, ◌+◌, ◌<◌, Bool, true, false, not, ◌&&◌, ◌||◌, List, length, refl}
use Rattle.std.proofs.Common.{sym, ap, ◌∙◌, arith, inl, inr}
use Rattle.std.proofs.lemmas.Bool.{cases_eq, and_left, and_right, or_left, or_from}
use Rattle.std.proofs.lemmas.Simd.{length-zip2}
use Rattle.graph_core.specs.Side.{has, meet, join, minus}
use Rattle.graph_core.specs.Lines.{differ}
use Rattle.graph_core.proofs.SideLaws.{has-zip2, has-minus}
use Rattle.graph_core.specs.declared.graph.Line.{Line}
use Rattle.cut_trees.specs.declared.branch.Branch.{Branch}
use Rattle.flow_cuts.specs.NodeCuts.{IsLeastNodeCut}
use Rattle.cut_trees.specs.Grown.{IsGrown}
use Rattle.cut_trees.specs.Turn.{IsTurn, Follows}
use Rattle.graph_core.proofs.CutLaws.{degree_meets, degree_parts}
use Rattle.cut_trees.proofs.StoredSides.{together, misses_t, misses_first, disjoint}

module _ {n s t w m : ℕ} {ls : List Line} {b : ℕ → Branch} {rep : ℕ → ℕ} {X : List Bool} (turn : IsTurn n s t ls m b rep) (cut : IsLeastNodeCut n ls s t w X) where
  st : IsGrown n s ls m b rep
  st = turn.grown

  -- a branch at t
  module _ (i : ℕ) (li : i < m) (to : (b i).second ≡ t) where
    same : length X ≡ length (b i).side
    same = cut.long ∙ sym (st.long i li)

    -- the intersection holds u and misses t, so it has at least d of the stored side, and the union at most d(X)
    pub widened : has X (b i).first ≡ true → IsLeastNodeCut n ls s t w (join X (b i).side)
    widened in_x =
        let long : length (join X (b i).side) ≡ n = length-zip2 ◌||◌ X (b i).side same ∙ cut.long in
        let holds : has (join X (b i).side) s ≡ true = has-zip2 ◌||◌ refl X (b i).side s same ∙ or_left (has X s) (has (b i).side s) cut.holds in
        let misses : has (join X (b i).side) t ≡ false = has-zip2 ◌||◌ refl X (b i).side t same ∙ or_from (has X t) (has (b i).side t) cut.misses (misses_t turn i li to) in
        let first : has (meet X (b i).side) (b i).first ≡ true = has-zip2 ◌&&◌ refl X (b i).side (b i).first same ∙ (λ z. in_x z && st.inside i li z) in
        let second : has (meet X (b i).side) (b i).second ≡ false = has-zip2 ◌&&◌ refl X (b i).side (b i).second same ∙ and_right (has X (b i).second) (has (b i).side (b i).second) (st.outside i li) in
        let low = st.least i li (meet X (b i).side) (length-zip2 ◌&&◌ X (b i).side same ∙ cut.long) (λ z. differ (first z) (second z)) in
        let high = cut.least (join X (b i).side) long holds misses in
        record { long = long; holds = holds; misses = misses; value = omega (arith, degree_meets ls X (b i).side cut.long (st.long i li), cut.value, st.value i li); least = cut.least }

    -- what the stored side has outside X holds u and misses t, so it has at least d of the stored side, and the rest of X at most d(X)
    pub narrowed : has X (b i).first ≡ false → IsLeastNodeCut n ls s t w (minus X (b i).side)
    narrowed out_x =
        let long : length (minus X (b i).side) ≡ n = length-zip2 (λ x y. x && not y) X (b i).side same ∙ cut.long in
        let misses_s : has (b i).side s ≡ false = together turn i li ∙ misses_t turn i li to in
        let holds : has (minus X (b i).side) s ≡ true = has-minus X (b i).side s same ∙ (λ z. cut.holds z && not (misses_s z)) in
        let misses : has (minus X (b i).side) t ≡ false = has-minus X (b i).side t same ∙ and_left (has X t) (not (has (b i).side t)) cut.misses in
        let first : has (minus (b i).side X) (b i).first ≡ true = has-minus (b i).side X (b i).first (sym same) ∙ (λ z. st.inside i li z && not (out_x z)) in
        let second : has (minus (b i).side X) (b i).second ≡ false = has-minus (b i).side X (b i).second (sym same) ∙ and_left (has (b i).side (b i).second) (not (has X (b i).second)) (st.outside i li) in
        let low = st.least i li (minus (b i).side X) (length-zip2 (λ x y. x && not y) (b i).side X (sym same) ∙ st.long i li) (λ z. differ (first z) (second z)) in
        let high = cut.least (minus X (b i).side) long holds misses in
        record { long = long; holds = holds; misses = misses; value = omega (arith, degree_parts ls X (b i).side cut.long (st.long i li), cut.value, st.value i li); least = cut.least }

    -- the sides at t are disjoint, so a later step doesn't undo an earlier one
    follows_more : (f : Bool → Bool → Bool) → ((a c : Bool) → f a true ≡ f c true) → ((a c : Bool) → c ≡ false → f a c ≡ a) → Follows n t i b X → (Y : List Bool) → ((v : ℕ) → has Y v ≡ f (has X v) (has (b i).side v)) → Follows n t (i + 1) b Y
    follows_more f in_side out_side old Y at j x lj lx to_j in_j =
        elim (cases_eq j i) [
          | inl is ↦
              let in_i : has (b i).side x ≡ true = rw is at in_j in
              rw is (at x ∙ ap (f (has X x)) in_i ∙ in_side (has X x) (has X (b i).first) ∙ sym (at (b i).first ∙ ap (f (has X (b i).first)) (st.inside i li)))
          | inr other ↦
              let j_in : j < m = omega arith in
              at x ∙ out_side (has X x) (has (b i).side x) (disjoint turn j i x j_in li other to_j to lx in_j) ∙ old j x (omega arith) lx to_j in_j
              ∙ sym (at (b j).first ∙ out_side (has X (b j).first) (has (b i).side (b j).first) (misses_first turn j i j_in li other to_j to))
        ]

    pub follows_widened : Follows n t i b X → Follows n t (i + 1) b (join X (b i).side)
    follows_widened old = follows_more ◌||◌ (λ a c. grind arith) (λ a c h. grind arith) old (join X (b i).side) (λ v. has-zip2 ◌||◌ refl X (b i).side v same)

    pub follows_narrowed : Follows n t i b X → Follows n t (i + 1) b (minus X (b i).side)
    follows_narrowed old = follows_more (λ a c. a && not c) (λ a c. grind arith) (λ a c h. grind arith) old (minus X (b i).side) (λ v. has-minus X (b i).side v same)

-- a branch elsewhere changes nothing
pub follows_kept : {n t : ℕ} (b : ℕ → Branch) (X : List Bool) (i : ℕ) → (b i).second ≢ t → Follows n t i b X → Follows n t (i + 1) b X
follows_kept b X i elsewhere old j x lj lx to_j in_j =
    elim (cases_eq j i) [
      | inl is ↦ absurd (elsewhere (rw is at to_j))
      | inr other ↦ old j x (omega arith) lx to_j in_j
    ]
