use Rattle.std.proofs.Common.{◌≡◌, ℕ, ◌↔◌, All, IsTrue, List, length, get_or, inl, inr, rules}
use Rattle.std.proofs.lemmas.Bool.{cases_lt}
use Rattle.std.proofs.lemmas.List.{get_or_past}
use Rattle.std.proofs.lemmas.List.Elements.{All-get_or, All-from_get_or}
use Rattle.word_sides.proofs.WordLaws.{value-none, zero_values}
use Rattle.word_sides.proofs.lanes.are_zero.Goals as goal

zero-each : (ws : List ℕ) → All (λ w. w ≡ 0) ws → (j : ℕ) → get_or ws j 0 ≡ 0
zero-each ws all j =
    elim (cases_lt j (length ws)) [
      | inl l ↦ All-get_or (λ w. w ≡ 0) ws j 0 l all
      | inr l ↦ get_or_past ws j 0 l
    ]

pub returns : goal.returns
returns c =
    let all : IsTrue c.all.result ↔ All (λ w. w ≡ 0) c.args.words.now = search rules in (
      λ yes. value-none c.args.words.now (zero-each c.args.words.now (all.0 yes)),
      λ none. all.1 (All-from_get_or (λ w. w ≡ 0) c.args.words.now 0 (λ j _. zero_values c.args.words.now c.type_inv.words none j)),
    )
