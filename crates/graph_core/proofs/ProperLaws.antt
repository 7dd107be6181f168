-- Proper sides, by a node in them and a node outside.
use Rattle.std.specs.Prelude.{ℕ, ◌≡◌, ◌<◌, ◌↔◌, Bool, true, false, not, List, length, All, Contains, IsTrue, refl}
use Rattle.std.proofs.Common.{ap, ◌∙◌, inl, inr, arith}
use Rattle.std.proofs.lemmas.List.{length-map, get_or_default}
use Rattle.std.proofs.lemmas.Bool.{cases_lt}
use Rattle.std.proofs.lemmas.List.Elements.{All-get_or, All-from_get_or}
use Rattle.std.proofs.lemmas.List.Sums.{count_by-le-length}
use Rattle.graph_core.specs.Side.{has, size, complement, IsProper}
use Rattle.graph_core.proofs.PutLaws.{some_missing, all_there}
use Rattle.graph_core.proofs.SideLaws.{contains-has, has-complement}
use Rattle.graph_core.proofs.SizeLaws.{some_or_none}

pub is_proper : {n : ℕ} (X : List Bool) (u v : ℕ) → length X ≡ n → has X u ≡ true → v < n → has X v ≡ false → IsProper n X
is_proper X u v e inside l outside = record { long = e; some_in = contains-has X u inside; some_out = (v, omega arith, outside) }

-- a node of a proper side, and a node outside
pub node_in : {n : ℕ} (X : List Bool) → IsProper n X → (v : ℕ) × (v < n) × (has X v ≡ true)
node_in X p = let (v, l, inside) = p.some_in in (v, omega (arith, p.long), get_or_default X v false true l ∙ inside)

pub node_out : {n : ℕ} (X : List Bool) → IsProper n X → (v : ℕ) × (v < n) × (has X v ≡ false)
node_out X p = let (v, l, outside) = p.some_out in (v, omega (arith, p.long), outside)

pub proper-complement : {n : ℕ} (X : List Bool) → IsProper n X → IsProper n (complement X)
proper-complement X p =
    let (i, li, ei) = node_in X p in
    let (o, lo, eo) = node_out X p in
    is_proper (complement X) o i (length-map X not ∙ p.long) (has-complement X o (omega (arith, p.long)) ∙ ap not eo) li (has-complement X i (omega (arith, p.long)) ∙ ap not ei)

-- a side is proper where it isn't empty and isn't the whole
pub proper_tells : (X : List Bool) (e f : Bool) → (IsTrue e ↔ All (λ b. b ≡ false) X) → (IsTrue f ↔ All (λ b. b ≡ true) X) → e ≡ false → IsTrue (not f) ↔ IsProper (length X) X
proper_tells X e true empty full h = (λ yes. absurd cc, λ p. let (v, l, out) = node_out X p in absurd (cc (All-get_or (λ b. b ≡ true) X v false l (full.0 refl))))
proper_tells X e false empty full h = (λ yes. record { long = refl; some_in = inside; some_out = outside }, λ p. refl)
  where
    inside : Contains X true
    inside =
        elim (some_or_none X) [
          | inl w ↦ contains-has X w.0 w.1
          | inr lacks ↦ absurd (cc (empty.1 (All-from_get_or (λ b. b ≡ false) X false (λ i _. lacks i))))
        ]

    outside : Contains X false
    outside =
        elim (cases_lt (size X) (length X)) [
          | inl l ↦ let (v, below, out) = some_missing X l in (v, below, out)
          | inr l ↦ absurd (cc (full.1 (All-from_get_or (λ b. b ≡ true) X false (all_there X (omega (arith, count_by-le-length (λ b. b) X))))))
        ]
