-- Branches may be turned about.
use Rattle.std.specs.Prelude.{ℕ, ◌≡◌, ◌≢◌, ◌==◌, ◌<◌, ◌≤◌, Bool, true, false, not, List, length, All, refl}
use Rattle.std.proofs.Common.{sym, ap, ◌∙◌, arith, inl, inr}
use Rattle.std.proofs.lemmas.Bool.{cases_eq, eq-eqb, ne_eqb}
use Rattle.std.proofs.lemmas.List.{length-map}
use Rattle.graph_core.specs.Side.{has}
use Rattle.graph_core.specs.Lines.{differ, degree}
use Rattle.graph_core.specs.Graph.{Fits}
use Rattle.graph_core.proofs.SideLaws.{has-complement}
use Rattle.graph_core.specs.declared.graph.Line.{Line}
use Rattle.cut_trees.specs.declared.branch.Branch.{Branch}
use Rattle.cut_trees.specs.Branch.{turned, turn}
use Rattle.cut_trees.specs.Grown.{IsGrown}
use Rattle.cut_trees.specs.Turn.{IsTurn}
use Rattle.graph_core.proofs.CutLaws.{degree-complement, differ_sym}

turned_has : (f : Bool) (x : Branch) (v : ℕ) → v < length x.side → has (turned f x).side v ≡ differ f (has x.side v)
turned_has true x v l = has-complement x.side v l
turned_has false x v l = refl

module _ {n s m : ℕ} {ls : List Line} {b : ℕ → Branch} {rep : ℕ → ℕ} (fit : All (Fits n) ls) (st : IsGrown n s ls m b rep) where
  in_side : (v j : ℕ) → v < n → j < m → v < length (b j).side
  in_side v j l k = let e = st.long j k in omega arith

  below_n : (v : ℕ) → v < s → v < n
  below_n v l = let h = st.below in omega arith

  turned_both : (f : Bool) (j v w : ℕ) → j < m → v < n → w < n → has (b j).side v ≡ has (b j).side w → has (turned f (b j)).side v ≡ has (turned f (b j)).side w
  turned_both f j v w l lv lw e = turned_has f (b j) v (in_side v j lv l) ∙ ap (differ f) e ∙ sym (turned_has f (b j) w (in_side w j lw l))

  -- turning some of the branches about keeps the state
  pub grown_turned : (flip : ℕ → Bool) (b' : ℕ → Branch) → ((j : ℕ) → j < m → b' j ≡ turned (flip j) (b j)) → IsGrown n s ls m b' rep
  grown_turned flip b' is =
      record {
        many = st.many;
        below = st.below;
        long = λ j l. rw (is j l) (elim (flip j) as (λ f. length (turned f (b j)).side ≡ n) [ true ↦ length-map (b j).side not ∙ st.long j l | false ↦ st.long j l ]);
        first_in = λ j l. rw (is j l) (elim (flip j) as (λ f. (turned f (b j)).first < s) [ true ↦ st.second_in j l | false ↦ st.first_in j l ]);
        second_in = λ j l. rw (is j l) (elim (flip j) as (λ f. (turned f (b j)).second < s) [ true ↦ st.first_in j l | false ↦ st.second_in j l ]);
        inside = λ j l. rw (is j l) (elim (flip j) as (λ f. has (turned f (b j)).side (turned f (b j)).first ≡ true) [
          | true ↦ turned_has true (b j) (b j).second (in_side (b j).second j (below_n (b j).second (st.second_in j l)) l) ∙ ap not (st.outside j l)
          | false ↦ st.inside j l
        ]);
        outside = λ j l. rw (is j l) (elim (flip j) as (λ f. has (turned f (b j)).side (turned f (b j)).second ≡ false) [
          | true ↦ turned_has true (b j) (b j).first (in_side (b j).first j (below_n (b j).first (st.first_in j l)) l) ∙ ap not (st.inside j l)
          | false ↦ st.outside j l
        ]);
        apart = λ i j li lj other.
            let first = below_n (b i).first (st.first_in i li) in
            let second = below_n (b i).second (st.second_in i li) in
            let e = st.apart i j li lj other in
            rw (is i li, is j lj) (elim (flip i) as (λ f. has (turned (flip j) (b j)).side (turned f (b i)).first ≡ has (turned (flip j) (b j)).side (turned f (b i)).second) [
              | true ↦ turned_both (flip j) j (b i).second (b i).first lj second first (sym e)
              | false ↦ turned_both (flip j) j (b i).first (b i).second lj first second e
            ]);
        value = λ j l. rw (is j l) (elim (flip j) as (λ f. degree (turned f (b j)).side ls ≡ (turned f (b j)).weight) [
          | true ↦ degree-complement ls fit (b j).side (st.long j l) ∙ st.value j l
          | false ↦ st.value j l
        ]);
        least = λ j l. rw (is j l) (elim (flip j) as (λ f. (Y : List Bool) → length Y ≡ n → differ (has Y (turned f (b j)).first) (has Y (turned f (b j)).second) ≡ true → (turned f (b j)).weight ≤ degree Y ls) [
          | true ↦ (λ Y e h. st.least j l Y e (differ_sym (has Y (b j).first) (has Y (b j).second) ∙ h))
          | false ↦ st.least j l
        ]);
        rep_in = st.rep_in;
        rep_self = st.rep_self;
        kept = λ j x l k. rw (is j l) (turned_both (flip j) j (rep x) x l (below_n (rep x) (st.rep_in x k)) k (st.kept j x l k));
        joined = λ q h. st.joined q (λ j l.
            (elim (flip j) as (λ f. q (turned f (b j)).first ≡ q (turned f (b j)).second → q (b j).first ≡ q (b j).second) [ true ↦ sym | false ↦ (λ e. e) ]) (rw (is j l) at (h j l)));
      }

-- a branch with two nodes, turned where its first is t, doesn't begin at t
turn_first : (t : ℕ) (x : Branch) → x.first ≢ x.second → (turn t x).first ≢ t
turn_first t x apart =
    elim (cases_eq x.first t) [
      | inl same ↦ rw (eq-eqb x.first t same) (λ h. apart (same ∙ sym h))
      | inr other ↦ rw (ne_eqb x.first t other) other
    ]

-- so a turn begins
pub turn_begun : {n s t m : ℕ} {ls : List Line} {b : ℕ → Branch} {rep : ℕ → ℕ} → All (Fits n) ls → IsGrown n s ls m b rep → s < n → rep s ≡ t → (b' : ℕ → Branch) → ((j : ℕ) → j < m → b' j ≡ turn t (b j)) → IsTurn n s t ls m b' rep
turn_begun {t = t} {b = b} fit st next rep_is b' is =
    record {
      fit = fit;
      grown = grown_turned fit st (λ j. (b j).first == t) b' is;
      next = next;
      rep_is = rep_is;
      turned_to = λ j l. rw (is j l) (turn_first t (b j) (λ same. let a = st.inside j l in let c = ap (has (b j).side) same ∙ st.outside j l in absurd cc));
    }
