-- Counts with one more at a node that had one.
use Rattle.std.specs.Prelude.{ℕ, ◌≡◌, ◌≢◌, ◌+◌, ◌%◌, ◌<◌, ◌≤◌, Bool, true, false, cond, List, length, replicate, slice_index, slice_set, sum}
use Rattle.std.proofs.Common.{sym, ap, ◌∙◌, inl, inr, arith}
use Rattle.std.proofs.lemmas.Bool.{cases_eq, cases_Bool}
use Rattle.std.proofs.lemmas.List.{length-set, get_or-set_same, get_or-set_other}
use Rattle.graph_core.specs.Side.{has, sum_over}
use Rattle.graph_core.proofs.SideLaws.{has-whole}
use Rattle.graph_core.proofs.WeightLaws.{nodes_changed, nodes_all}
use Rattle.augment_edges.specs.Even.{IsMadeEven}

module _ (counts : List ℕ) (v : ℕ) (below : v < length counts) (some : 1 ≤ slice_index counts v) where
  abbrev pub raised : List ℕ
  raised = slice_set counts v (slice_index counts v + 1)

  here : slice_index raised v ≡ slice_index counts v + 1
  here = get_or-set_same counts v (slice_index counts v + 1) 0 below

  other : (u : ℕ) → u ≢ v → slice_index raised u ≡ slice_index counts u
  other u ne = get_or-set_other counts v u (slice_index counts v + 1) 0 ne

  -- what a side has more
  abbrev one_at : List Bool → ℕ
  one_at X = cond (has X v) 1 0

  one_more : (X : List Bool) → sum_over X (slice_index raised) ≡ sum_over X (slice_index counts) + one_at X
  one_more X =
      let change = nodes_changed (slice_index counts) (slice_index raised) v other X in
      elim (cases_Bool (has X v)) [
        | inl inside ↦ rw inside (let more = rw inside at change in omega (arith, here))
        | inr outside ↦ rw outside (let same = rw outside at change in omega arith)
      ]

  pub made_even-raised : sum counts % 2 ≡ 1 → IsMadeEven counts raised
  made_even-raised odd =
      let long : length raised ≡ length counts = length-set counts v (slice_index counts v + 1) in
      let W = replicate (length counts) true in
      let all : sum_over W (slice_index raised) ≡ sum raised = ap (λ m. sum_over (replicate m true) (slice_index raised)) (sym long) ∙ nodes_all raised in
      let one : one_at W ≡ 1 = ap (λ b. cond b 1 0) (has-whole (length counts) v below) in
      record {
        long = long;
        even = omega (arith, all, one, one_more W, nodes_all counts);
        least = λ X. omega (arith, one_more X);
        most = λ X. omega (arith, one_more X, at_most_one (has X v));
        held = λ u more.
            elim (cases_eq u v) [
              | inl e ↦ ap-le e
              | inr ne ↦ omega (arith, other u ne)
            ];
      }
    where
      at_most_one : (b : Bool) → cond b 1 0 ≤ 1
      at_most_one true = omega arith
      at_most_one false = omega arith

      ap-le : {u : ℕ} → u ≡ v → 1 ≤ slice_index counts u
      ap-le e = rw e some

-- the sum is what it was, or one more
pub made_even-sum : (old new : List ℕ) → IsMadeEven old new → (sum old ≤ sum new) × (sum new ≤ sum old + 1)
made_even-sum old new made =
    let W = replicate (length old) true in
    let all : sum_over W (slice_index new) ≡ sum new = ap (λ m. sum_over (replicate m true) (slice_index new)) (sym made.long) ∙ nodes_all new in
    (omega (arith, made.least W, nodes_all old, all), omega (arith, made.most W, nodes_all old, all))
