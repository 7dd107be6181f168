-- Marks count how often numbers stand in a list.
use Rattle.std.proofs.Common.{◌≡◌, ℕ, ◌+◌, ◌<◌, ◌≤◌, ◌==◌, Bool, true, false, cond, List, length, take, get_or, refl, ap, ◌∙◌, eq-eqb, replicate, IsTrue, ◌↔◌, lit≤, arith}
use Rattle.std.specs.Bool.{OnTrue, OnFalse}
use Rattle.std.proofs.lemmas.Bool.{false≢true}
use Rattle.std.proofs.lemmas.List.Sums.{sum_by_more_le}
use Rattle.graph_core.specs.Picked.{occurrences, mark, IsDistinct}
use Rattle.graph_core.specs.Side.{has}
use Rattle.graph_core.proofs.SideLaws.{has-none}

pub mark-twice : (x i before : ℕ) (X : List Bool) (row : List ℕ) → i < length row → get_or row i 0 ≡ x → has X x ≡ true → mark X x ≡ before + occurrences x (take i row) → 2 ≤ before + occurrences x row
mark-twice x i before X row in_row is marked known =
    let more : occurrences x (take i row) + cond {A = ℕ} (get_or row i 0 == x) 1 0 ≤ occurrences x row = sum_by_more_le (λ k. cond (k == x) 1 0) row i 0 in_row in
    let same : (get_or row i 0 == x) ≡ true = eq-eqb (get_or row i 0) x is in
    let here : cond {A = ℕ} (get_or row i 0 == x) 1 0 ≡ 1 = ap (λ b. cond {A = ℕ} b 1 0) same in
    let one : mark X x ≡ 1 = ap (λ b. cond {A = ℕ} b 1 0) marked in
    omega arith

pub unmarked : (n j : ℕ) → mark (replicate n false) j ≡ 0
unmarked n j = ap (λ b. cond {A = ℕ} b 1 0) (has-none n j)

pub mark-le : (X : List Bool) (j : ℕ) → mark X j ≤ 1
mark-le X j = elim (has X j) as (λ b. cond {A = ℕ} b 1 0 ≤ 1) [ true ↦ lit≤ tt | false ↦ lit≤ tt ]

-- no number stands twice, where each got a mark that it hadn't before
pub marked-apart : (n : ℕ) (old new : List Bool) (js : List ℕ) (all : Bool) → old ≡ replicate n false
    → OnTrue all ((j : ℕ) → mark new j ≡ mark old j + occurrences j js) → OnFalse all ((j : ℕ) × (j < n) × (2 ≤ mark old j + occurrences j js)) → IsTrue all ↔ IsDistinct js
marked-apart n old new js true start once twice = (
  λ _ j. let known : mark new j ≡ mark old j + occurrences j js = once j in let one = mark-le new j in omega arith,
  λ _. refl,
)
marked-apart n old new js false start once (x, below, two) = (
  λ never. absurd (false≢true never),
  λ distinct.
      let none : mark old x ≡ 0 = ap (λ X. mark X x) start ∙ unmarked n x in
      let once : occurrences x js ≤ 1 = distinct x in
      absurd (omega arith),
)
