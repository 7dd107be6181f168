-- The jumps of a way, by potential and within one potential from its end to its start, can be exchanged.
use Rattle.std.specs.Prelude.{ℕ, ◌≡◌, ◌+◌, ◌<◌, ◌≤◌, Bool, List, [], ◌∷◌, length, slice_index_or, count_by, All}
use Rattle.std.proofs.Common.{sym, ◌∙◌, arith, inl, inr}
use Rattle.std.proofs.lemmas.Bool.{cases_lt}
use Rattle.std.proofs.lemmas.List.Elements.{All-weaker, All-head, All-tail}
use Rattle.graph_core.specs.Graph.{GraphValue}
use Rattle.graph_core.specs.Side.{has}
use Rattle.graph_core.proofs.Counting.{weight, sum_by-add, sum_by-agree}
use Rattle.problem_defs.specs.Dijoin.{IsClosed}
use Rattle.dicut_lattice.specs.Tight.{joins, IsAllowed, AreSeparated}
use Rattle.dicut_lattice.specs.Exchange.{AreInOrder, raises, lowers, raised, lowered}
use Rattle.dicut_lattice.proofs.Exchanged.{exchange-law, jump_counts}
use Rattle.lucchesi_younger.specs.Kept.{at, IsKept}
use Rattle.lucchesi_younger.specs.Ways.{IsWay, jumps_of}
use Rattle.lucchesi_younger.proofs.Sorted as order
use Rattle.lucchesi_younger.proofs.WayLaws as way
use Rattle.lucchesi_younger.specs.declared.work.Step.{Step}
use Rattle.lucchesi_younger.specs.declared.work.Work.{Work}

-- what jumps change at a side, as a difference of two counts
raised-lowered : (U : List Bool) (js : List (ℕ × ℕ)) → lowered U js + count_by (λ p. has U p.0) js ≡ raised U js + count_by (λ p. has U p.1) js
raised-lowered U js =
    sym (sum_by-add (λ p. weight (lowers U p)) (λ p. weight (has U p.0)) js)
    ∙ sum_by-agree (λ p. weight (lowers U p) + weight (has U p.0)) (λ p. weight (raises U p) + weight (has U p.1)) js (λ i d l. let p = slice_index_or js i d in jump_counts (has U p.0) (has U p.1))
    ∙ sum_by-add (λ p. weight (raises U p)) (λ p. weight (has U p.1)) js

module _ (g : GraphValue) (w : Work) (late : ℕ) (k : IsKept g w late) where
  abbrev key : ℕ × ℕ → ℕ
  key p = at w.potential p.0

  abbrev IsSplit : ℕ × ℕ → ℕ × ℕ → Type 0
  IsSplit p q = AreSeparated g w.join q.1 p.0

  abbrev IsJump : ℕ × ℕ → Type 0
  IsJump p = way.IsJump g w late p

  -- a jump of less potential comes first
  split_below : (p q : ℕ × ℕ) → IsJump p → IsJump q → key q < key p → IsSplit q p
  split_below p q jp jq less = let e = jp.equal in k.apart q.0 p.1 jq.x_in jp.y_in (omega arith)

  in_turn : (js : List (ℕ × ℕ)) → All IsJump js → way.AreInTurn g w late js → order.AreInTurn key IsSplit js
  in_turn [] all turn = tt
  in_turn (p ∷ ps) all (here, rest) = (
    (λ i d l least.
        let q = slice_index_or ps i d in
        let jq = All-tail IsJump p ps all i d l in
        elim (cases_lt (key p) (key q)) [
          | inl less ↦ split_below q p jq (All-head IsJump p ps all) less
          | inr more ↦ here i d l (let e = jq.equal in omega arith)
        ]),
    in_turn ps (All-tail IsJump p ps all) rest,
  )

  module _ (steps : List Step) (u v : ℕ) (h : IsWay g w late u v steps) where
    all_jumps : All IsJump (jumps_of steps)
    all_jumps = way.way_jumps g w late steps u v h

    in_order : AreInOrder g w.join (order.sorted key (jumps_of steps))
    in_order =
        let all = order.All-sorted key IsJump (jumps_of steps) all_jumps in
        record {
          nodes = All-weaker IsJump (λ p. (p.0 < length g.names) × (p.1 < length g.names)) (λ p j. (j.x_in, j.y_in)) (order.sorted key (jumps_of steps)) all;
          allowed = All-weaker IsJump (λ p. IsAllowed g w.join p.0 p.1) (λ p j. j.allowed) (order.sorted key (jumps_of steps)) all;
          ordered = order.pairs-sorted key IsSplit IsJump split_below (jumps_of steps) all_jumps (in_turn (jumps_of steps) all_jumps (way.way_in_turn g w late steps u v h));
        }

    -- a closed side keeps at least 1 after the jumps
    pub jumps_keep : (U : List Bool) → IsClosed g U → 1 + count_by (λ p. has U p.1) (jumps_of steps) ≤ joins g w.join U + count_by (λ p. has U p.0) (jumps_of steps)
    jumps_keep U c =
        omega (
          arith,
          exchange-law g w.join (order.sorted key (jumps_of steps)) k.join in_order U c,
          raised-lowered U (jumps_of steps),
          order.count-sorted key (raises U) (jumps_of steps),
          order.count-sorted key (lowers U) (jumps_of steps),
        )

    -- the jumps don't change a level
    pub jumps_level : (L : List Bool) → ((x y : ℕ) → at w.potential x ≡ at w.potential y → has L x ≡ has L y) → count_by (λ p. has L p.0) (jumps_of steps) ≡ count_by (λ p. has L p.1) (jumps_of steps)
    jumps_level L same =
        sum_by-agree (λ p. weight (has L p.0)) (λ p. weight (has L p.1)) (jumps_of steps)
        (All-weaker IsJump (λ p. weight (has L p.0) ≡ weight (has L p.1)) (λ p j t. weight (same p.0 p.1 j.equal t)) (jumps_of steps) all_jumps)
