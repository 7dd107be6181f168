-- The stored sides of the branches at t are disjoint, and hold all nodes of the tree but t.
use Rattle.std.specs.Prelude.{ℕ, ◌≡◌, ◌≢◌, ◌==◌, ◌<◌, Bool, true, false, ◌&&◌, ◌||◌, List, refl}
use Rattle.std.proofs.Common.{sym, ap, ◌∙◌, arith, inl, inr}
use Rattle.std.proofs.lemmas.Bool.{cases_eq, eq-eqb, eqb-true, ne_eqb, and_left, and_right, and_from, and_parts, or_left, or_right}
use Rattle.graph_core.specs.Side.{has}
use Rattle.graph_core.specs.declared.graph.Line.{Line}
use Rattle.cut_trees.specs.declared.branch.Branch.{Branch}
use Rattle.cut_trees.specs.Grown.{IsGrown}
use Rattle.cut_trees.specs.Turn.{IsTurn}
use Rattle.cut_trees.proofs.SomeBelow.{some_below, some_below-agree, some_below-at, found}

module _ {n s t m : ℕ} {ls : List Line} {b : ℕ → Branch} {rep : ℕ → ℕ} (turn : IsTurn n s t ls m b rep) where
  st : IsGrown n s ls m b rep
  st = turn.grown

  pub t_in : t < s
  t_in = let l = st.rep_in s turn.next in let e = turn.rep_is in omega arith

  pub t_below : t < n
  t_below = let l = t_in in let h = turn.next in omega arith

  -- no stored side separates s and t
  pub together : (j : ℕ) → j < m → has (b j).side s ≡ has (b j).side t
  together j l = sym (st.kept j s l turn.next) ∙ ap (has (b j).side) turn.rep_is

  -- the stored side of a branch at t misses t
  pub misses_t : (j : ℕ) → j < m → (b j).second ≡ t → has (b j).side t ≡ false
  misses_t j l e = ap (has (b j).side) (sym e) ∙ st.outside j l

  -- and the first node of another
  pub misses_first : (i j : ℕ) → i < m → j < m → i ≢ j → (b i).second ≡ t → (b j).second ≡ t → has (b j).side (b i).first ≡ false
  misses_first i j li lj other ei ej = st.apart i j li lj other ∙ ap (has (b j).side) ei ∙ misses_t j lj ej

  -- no branch crosses the intersection of two stored sides at t, and t is outside
  pub disjoint : (i j x : ℕ) → i < m → j < m → i ≢ j → (b i).second ≡ t → (b j).second ≡ t → x < n → has (b i).side x ≡ true → has (b j).side x ≡ false
  disjoint i j x li lj other ei ej lx in_i =
      let q : ℕ → Bool = λ v. has (b i).side v && has (b j).side v in
      let out : (v : ℕ) → has (b i).side v ≡ false → q v ≡ false = λ v. and_left (has (b i).side v) (has (b j).side v) in
      let out' : (v : ℕ) → has (b j).side v ≡ false → q v ≡ false = λ v. and_right (has (b i).side v) (has (b j).side v) in
      let uncrossed : (k : ℕ) → k < m → q (b k).first ≡ q (b k).second =
      λ k lk.
      elim (cases_eq k i) [
        | inl same ↦ rw same (out' (b i).first (misses_first i j li lj other ei ej) ∙ sym (out (b i).second (st.outside i li)))
        | inr not_i ↦
            elim (cases_eq k j) [
              | inl same ↦ rw same (out (b j).first (misses_first j i lj li (λ e. other (sym e)) ej ei) ∙ sym (out' (b j).second (st.outside j lj)))
              | inr not_j ↦ (λ z. st.apart k i lk li not_i z && st.apart k j lk lj not_j z)
            ]
      ] in
      let at_rep : q (rep x) ≡ false = st.joined q uncrossed (rep x) (st.rep_in x lx) ∙ sym (st.joined q uncrossed t t_in) ∙ out t (misses_t i li ei) in
      sym (λ z. (st.kept i x li lx ∙ in_i) z && st.kept j x lj lx z) ∙ at_rep

  -- a branch at t whose stored side holds p
  pub record Holds (p : ℕ) : Type 0 where
    pub place : ℕ
    pub place_in : place < m
    pub to_t : (b place).second ≡ t
    pub holds_it : has (b place).side p ≡ true

  -- no branch crosses the union of t and the stored sides at t
  pub covered : (p : ℕ) → p < s → p ≢ t → Holds p
  covered p lp other =
      let on : ℕ → ℕ → Bool = λ v j. ((b j).second == t) && has (b j).side v in
      let q : ℕ → Bool = λ v. (v == t) || some_below m (on v) in
      let uncrossed : (k : ℕ) → k < m → q (b k).first ≡ q (b k).second =
      λ k lk.
      elim (cases_eq (b k).second t) [
        | inl to ↦
            let is_t : ((b k).second == t) ≡ true = eq-eqb (b k).second t to in
            let here : some_below m (on (b k).first) ≡ true = some_below-at m (on (b k).first) k lk (and_from ((b k).second == t) (has (b k).side (b k).first) is_t (st.inside k lk)) in
            or_right ((b k).first == t) (some_below m (on (b k).first)) here ∙ sym (or_left ((b k).second == t) (some_below m (on (b k).second)) is_t)
        | inr elsewhere ↦
            let not_t : ((b k).second == t) ≡ false = ne_eqb (b k).second t elsewhere in
            let alike : some_below m (on (b k).first) ≡ some_below m (on (b k).second) =
            some_below-agree m (on (b k).first) (on (b k).second) (λ j lj.
            elim (cases_eq k j) [
              | inl same ↦ rw (← same) (and_left ((b k).second == t) (has (b k).side (b k).first) not_t ∙ sym (and_left ((b k).second == t) (has (b k).side (b k).second) not_t))
              | inr not_j ↦ ap (λ h. ((b j).second == t) && h) (st.apart k j lk lj not_j)
            ]) in
            (λ z. (ne_eqb (b k).first t (turn.turned_to k lk) ∙ sym not_t) z || alike z)
      ] in
      let at_p : q p ≡ true = st.joined q uncrossed p lp ∙ sym (st.joined q uncrossed t t_in) ∙ or_left (t == t) (some_below m (on t)) (eq-eqb t t refl) in
      let some : some_below m (on p) ≡ true = rw (ne_eqb p t other) at at_p in
      let r = found m (on p) some in
      let parts = and_parts ((b r.place).second == t) (has (b r.place).side p) r.passes in
      record { place = r.place; place_in = r.below; to_t = eqb-true (b r.place).second t parts.0; holds_it = parts.1 }
