-- The marks that change along a way, and the dijoin that they make.
use Rattle.std.specs.Prelude.{ℕ, ◌≡◌, ◌+◌, ◌<◌, ◌≤◌, Bool, true, false, List, ◌∷◌, length, slice_set, All}
use Rattle.std.proofs.Common.{sym, ap, ◌∙◌, arith, inl, inr}
use Rattle.std.proofs.lemmas.Bool.{cases_eq, cases_lt, cases_Bool, both_ways}
use Rattle.std.proofs.lemmas.List.{length-set, get_or-set_same, get_or-set_other}
use Rattle.std.proofs.lemmas.Option.{slice_get_within}
use Rattle.graph_core.specs.Graph.{GraphValue}
use Rattle.graph_core.specs.Side.{has}
use Rattle.graph_core.specs.Picked.{occurrences, ArePicks}
use Rattle.graph_core.proofs.Counting.{weight}
use Rattle.graph_core.proofs.SideLaws.{has-below}
use Rattle.lucchesi_younger.specs.Kept.{IsIn, IsKept}
use Rattle.lucchesi_younger.specs.Marks.{AreMarks, AreListed, AreCleared, AreAdded}
use Rattle.lucchesi_younger.specs.Ways.{IsWay, IsExchanged, arcs_taken, arcs_left}
use Rattle.dicut_lattice.proofs.Exchanged.{weight-in}
use Rattle.lucchesi_younger.proofs.Joins.{All-from_in, occurs-same, occurs-other}
use Rattle.lucchesi_younger.proofs.WayLaws.{left-once, taken-free}
use Rattle.lucchesi_younger.specs.declared.work.Step.{Step}
use Rattle.lucchesi_younger.specs.declared.work.Work.{Work}

-- a list of the marked arcs is one of different arcs
pub listed-picks : (g : GraphValue) (marks : List Bool) (js : List ℕ) → length marks ≡ length g.lines → AreListed marks js → ArePicks g.lines js
listed-picks g marks js long a = record {
  in_range = All-from_in (λ j. j < length g.lines) js (λ j i. let is = a j in let below = has-below marks j (weight-in (has marks j) (omega arith)) in omega arith);
  distinct = λ j. (let is = a j in elim (cases_Bool (has marks j)) [ inl in' ↦ omega (arith, ap weight in') | inr out ↦ omega (arith, ap weight out) ]);
}

module _ (g : GraphValue) (w : Work) (late s t : ℕ) (k : IsKept g w late) (steps : List Step) (way : IsWay g w late t s steps) (marks : List Bool) (a : AreMarks (length g.lines) w.join marks) where
  abbrev first : List Bool
  first = slice_set marks late false

  pub left-below : All (λ j. j < length first) (arcs_left steps)
  left-below =
      All-from_in (λ j. j < length first) (arcs_left steps)
      (λ j i. let below = has-below marks j (a.all j ((left-once g w late steps t s way j).1 i).0) in omega (arith, length-set marks late false))

  pub taken-below : (mid : List Bool) → length mid ≡ length first → All (λ j. j < length mid) (arcs_taken steps)
  taken-below mid long =
      All-from_in (λ j. j < length mid) (arcs_taken steps)
      (λ j i.
      let (u, v, take) = taken-free g w late steps t s way j i in
      let below = slice_get_within g.lines j take.line take.arc in
      let size = a.long in
      omega (arith, length-set marks late false))

  module _ (mid last : List Bool) (new : List ℕ) (c : AreCleared (arcs_left steps) first mid) (d : AreAdded (arcs_taken steps) mid last) (e : AreListed last new) (below : late < length g.lines) where
    last-in : (j : ℕ) → has last j ≡ true → IsIn new j
    last-in j h = let is = e j in omega (arith, ap weight h)

    in-last : (j : ℕ) → IsIn new j → has last j ≡ true
    in-last j h = let is = e j in weight-in (has last j) (omega arith)

    old-once : (j : ℕ) → occurrences j w.join ≤ occurrences j new + occurrences j (late ∷ arcs_left steps)
    old-once j =
        let once = k.join.picks.distinct j in
        elim (cases_lt 0 (occurrences j w.join)) [
          | inr none ↦ omega arith
          | inl some ↦ elim (cases_eq late j) [
            | inl same ↦ omega (arith, occurs-same j late (arcs_left steps) same)
            | inr other ↦
                let was : has first j ≡ true = get_or-set_other marks late j false false (λ x. other (sym x)) ∙ a.all j some in
                elim (c.kept j was) [
                  | inl stays ↦ (let here = last-in j (d.kept j stays) in omega arith)
                  | inr left ↦ omega (arith, occurs-other j late (arcs_left steps) other)
                ]
          ]
        ]

    pub made : IsExchanged g late steps w.join new
    made = record {
      picks = listed-picks g last new (d.long ∙ c.long ∙ length-set marks late false ∙ a.long) e;
      taken = λ j i. last-in j (d.all j i);
      kept = old-once;
      only = λ j i. elim (d.each j (in-last j i)) [
        | inr in' ↦ inl in'
        | inl stays ↦
            let was = c.each j stays in
            let other : late ≡ j → ⊥ = λ same. both_ways (has first j) (ap (has first) (sym same) ∙ get_or-set_same marks late false false (omega (arith, a.long))) was in
            let none : occurrences j (arcs_left steps) ≡ 0 = elim (cases_lt 0 (occurrences j (arcs_left steps))) [ inl some ↦ absurd (c.none j some stays) | inr zero' ↦ omega arith ] in
            inr (a.each j (sym (get_or-set_other marks late j false false (λ x. other (sym x))) ∙ was), occurs-other j late (arcs_left steps) other ∙ none)
      ];
    }
