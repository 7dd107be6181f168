-- A search over all sides: where a jump isn't allowed, there is a tight side that shows it.
use Rattle.std.specs.Prelude.{ℕ, zero, suc, ◌≡◌, ◌<◌, Bool, true, false, List, [], ◌∷◌, length, refl}
use Rattle.std.proofs.Common.{◌⊎◌, inl, inr, arith, ⊎_elim}
use Rattle.std.proofs.lemmas.Bool.{cases_Bool, cases_eq, both_ways}
use Rattle.graph_core.specs.Graph.{GraphValue}
use Rattle.graph_core.specs.Lines.{leaving}
use Rattle.graph_core.specs.Side.{has}
use Rattle.graph_core.proofs.ProperLaws.{is_proper}
use Rattle.dicut_lattice.specs.Tight.{AreSeparated, IsAllowed, joins}

abbrev Found : ℕ → (List Bool → Type 0) → Type 0
Found n P = (U : List Bool) × (length U ≡ n) × P U

abbrev NotFound : ℕ → (List Bool → Type 0) → Type 0
NotFound n P = (U : List Bool) → length U ≡ n → P U → ⊥

-- a side without its first node
none-more : (n : ℕ) (P : List Bool → Type 0) → NotFound n (λ U. P (true ∷ U)) → NotFound n (λ U. P (false ∷ U)) → NotFound (suc n) P
none-more n P held missed [] e p = absurd (omega arith)
none-more n P held missed (true ∷ U) e p = held U (omega arith) p
none-more n P held missed (false ∷ U) e p = missed U (omega arith) p

none-empty : (P : List Bool → Type 0) → (P [] → ⊥) → NotFound 0 P
none-empty P never [] e p = never p
none-empty P never (x ∷ U) e p = absurd (omega arith)

-- a side of n nodes with a property that can be told, or none
some-side : (n : ℕ) (P : List Bool → Type 0) → ((U : List Bool) → P U ⊎ (P U → ⊥)) → Found n P ⊎ NotFound n P
some-side zero P tell = ⊎_elim (λ p. inl ([], refl, p)) (λ never. inr (none-empty P never)) (tell [])
some-side (suc n) P tell =
    ⊎_elim
    (λ f. inl (true ∷ f.0, omega (arith, f.1), f.2))
    (λ held. ⊎_elim (λ f. inl (false ∷ f.0, omega (arith, f.1), f.2)) (λ missed. inr (none-more n P held missed)) (some-side n (λ U. P (false ∷ U)) (λ U. tell (false ∷ U))))
    (some-side n (λ U. P (true ∷ U)) (λ U. tell (true ∷ U)))

module _ (g : GraphValue) (join : List ℕ) (y x : ℕ) where
  -- a side of all nodes that is tight, holds y and misses x
  record IsApart (U : List Bool) : Type 0 where
    closed : leaving U g.lines ≡ 0
    once : joins g join U ≡ 1
    holds : has U y ≡ true
    misses : has U x ≡ false

  tell : (U : List Bool) → IsApart U ⊎ (IsApart U → ⊥)
  tell U =
      elim (cases_Bool (has U y)) [
        | inr out ↦ inr (λ a. both_ways (has U y) out a.holds)
        | inl holds ↦ elim (cases_Bool (has U x)) [
          | inl in' ↦ inr (λ a. both_ways (has U x) a.misses in')
          | inr misses ↦ elim (cases_eq (leaving U g.lines) 0) [
            | inr some ↦ inr (λ a. some a.closed)
            | inl closed ↦ elim (cases_eq (joins g join U) 1) [
              | inr other ↦ inr (λ a. other a.once)
              | inl once ↦ inl (record { closed = closed; once = once; holds = holds; misses = misses })
            ]
          ]
        ]
      ]

  pub separated-unless : x < length g.names → (IsAllowed g join x y → ⊥) → AreSeparated g join y x
  separated-unless below never =
      ⊎_elim
      (λ f.
      let a = f.2 in (
        f.0,
        record {
          tight = record { closed = record { proper = is_proper f.0 y x f.1 a.holds below a.misses; closed = a.closed }; once = a.once };
          holds = a.holds;
          misses = a.misses;
        },
      ))
      (λ none. absurd (never (λ U t holds. elim (cases_Bool (has U x)) [
        | inl in' ↦ in'
        | inr misses ↦ absurd (none U t.closed.proper.long (record { closed = t.closed.closed; once = t.once; holds = holds; misses = misses }))
      ])))
      (some-side (length g.names) IsApart tell)
