-- Marks count how often numbers stand in rows.
use Rattle.std.proofs.Common.{◌≡◌, ℕ, ◌+◌, ◌<◌, ◌≤◌, ◌==◌, Bool, true, false, cond, List, length, take, get_or, refl, sym, ap, ◌∙◌, replicate, IsTrue, ◌↔◌, arith}
use Rattle.std.specs.Prelude.{All}
use Rattle.std.specs.List.{concat, sum_by}
use Rattle.std.proofs.lemmas.List.Elements.{All-from_get_or}
use Rattle.std.proofs.lemmas.List.Sums.{sum_by_more, sum_by_more_le}
use Rattle.graph_core.specs.Picked.{occurrences, mark}
use Rattle.graph_core.specs.Side.{has}
use Rattle.graph_core.proofs.Counting.{sum_by-concat}
use Rattle.graph_core.proofs.MarkLaws.{unmarked}

in_rows : (x : ℕ) (rows : List (List ℕ)) → occurrences x (concat rows) ≡ sum_by (occurrences x) rows
in_rows x rows = sum_by-concat (λ k. cond (k == x) 1 0) rows

pub row-more : (x i : ℕ) (rows : List (List ℕ)) (d : List ℕ) → i < length rows → occurrences x (concat (take (i + 1) rows)) ≡ occurrences x (concat (take i rows)) + occurrences x (get_or rows i d)
row-more x i rows d within = in_rows x (take (i + 1) rows) ∙ sum_by_more (occurrences x) rows i d within ∙ ap (λ n. n + occurrences x (get_or rows i d)) (sym (in_rows x (take i rows)))

pub row-more-le : (x i : ℕ) (rows : List (List ℕ)) (d : List ℕ) → i < length rows → occurrences x (concat (take i rows)) + occurrences x (get_or rows i d) ≤ occurrences x (concat rows)
row-more-le x i rows d within =
    let more = sum_by_more_le (occurrences x) rows i d within in
    let before = in_rows x (take i rows) in
    let all = in_rows x rows in
    omega arith

is-marked : (b : Bool) → cond {A = ℕ} b 1 0 ≡ 1 → b ≡ true
is-marked true h = refl
is-marked false h = absurd (omega arith)

-- each number stands once, where each got a mark that it hadn't before, and all have one
pub marked-once : (n : ℕ) (old new : List Bool) (rows : List (List ℕ)) (all : Bool) → old ≡ replicate n false → length new ≡ n → ((j : ℕ) → mark new j ≡ mark old j + occurrences j (concat rows))
    → (IsTrue all ↔ All (λ b. b ≡ true) new) → IsTrue all ↔ ((j : ℕ) → j < n → occurrences j (concat rows) ≡ 1)
marked-once n old new rows all start long once told =
    let each : (j : ℕ) → mark new j ≡ occurrences j (concat rows) = λ j. let is = once j in let none : mark old j ≡ 0 = ap (λ X. mark X j) start ∙ unmarked n j in omega arith in (
      λ is j l. sym (each j) ∙ ap (λ b. cond {A = ℕ} b 1 0) (told.0 is j false (rw long l)),
      λ every. told.1 (All-from_get_or (λ b. b ≡ true) new false (λ j l. is-marked (has new j) (each j ∙ every j (rw (← long) l)))),
    )

pub twice-not_once : (n x : ℕ) (old : List Bool) (rows : List (List ℕ)) → old ≡ replicate n false → x < n → 2 ≤ mark old x + occurrences x (concat rows) → ¬ ((j : ℕ) → j < n → occurrences j (concat rows) ≡ 1)
twice-not_once n x old rows start below twice every =
    let none : mark old x ≡ 0 = ap (λ X. mark X x) start ∙ unmarked n x in
    let once = every x below in
    omega arith
