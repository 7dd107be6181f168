-- The sets of at most c elements are a matroid.
use Rattle.std.specs.Prelude.{◌≡◌, ℕ, zero, suc, ◌+◌, ◌<◌, ◌≤◌, Bool, true, false, List, [], ◌∷◌, length, replicate, refl}
use Rattle.std.proofs.Common.{arith, set, sym, ◌∙◌}
use Rattle.std.proofs.lemmas.Bool.{both_ways}
use Rattle.std.proofs.lemmas.List.Sums.{sum_by-cons}
use Rattle.graph_core.specs.Side.{has, size}
use Rattle.graph_core.proofs.Counting.{weight}
use Rattle.matroid_union.specs.Matroid.{IsMatroid}

size-cons : (b : Bool) (X : List Bool) → size (b ∷ X) ≡ weight b + size X
size-cons b X = sum_by-cons weight b X

-- a larger set has a member that a smaller one hasn't
record Differs (A B : List Bool) : Type 0 where
  at : ℕ
  below : at < length B
  theirs : has B at ≡ true
  fresh : has A at ≡ false
  more : size (set A at true) ≡ size A + 1

differs : (A B : List Bool) → length A ≡ length B → size A < size B → Differs A B
differs [] [] e l = absurd (omega arith)
differs [] (b ∷ B) e l = absurd (omega arith)
differs (a ∷ A) [] e l = absurd (omega arith)
differs (false ∷ A) (true ∷ B) e l = record { at = 0; below = omega arith; theirs = refl; fresh = refl; more = omega (arith, size-cons true A, size-cons false A) }
differs (true ∷ A) (b ∷ B) e l =
    let most : weight b ≤ 1 = elim b as (λ c. weight c ≤ 1) [ true ↦ omega arith | false ↦ omega arith ] in
    let w = differs A B (omega arith) (omega (arith, size-cons true A, size-cons b B)) in
    let less = w.below in
    let grown = w.more in
    record { at = suc w.at; below = omega arith; theirs = w.theirs; fresh = w.fresh; more = omega (arith, size-cons true (set A w.at true), size-cons true A) }
differs (false ∷ A) (false ∷ B) e l =
    let w = differs A B (omega arith) (omega (arith, size-cons false A, size-cons false B)) in
    let less = w.below in
    let grown = w.more in
    record { at = suc w.at; below = omega arith; theirs = w.theirs; fresh = w.fresh; more = omega (arith, size-cons false (set A w.at true), size-cons false A) }

size-subset : (A B : List Bool) → length A ≡ length B → ((e : ℕ) → e < length B → has A e ≡ true → has B e ≡ true) → size A ≤ size B
size-subset [] B e h = omega arith
size-subset (a ∷ A) [] e h = absurd (omega arith)
size-subset (a ∷ A) (b ∷ B) e h =
    let first : weight a ≤ weight b = first_le a b (h 0 (omega arith)) in
    omega (arith, size-cons a A, size-cons b B, size-subset A B (omega arith) (λ k l. h (suc k) (omega arith)))
  where
    first_le : (x y : Bool) → (x ≡ true → y ≡ true) → weight x ≤ weight y
    first_le false y i = omega arith
    first_le true true i = omega arith
    first_le true false i = absurd (both_ways false refl (i refl))

pub size-none : (n : ℕ) → size (replicate n false) ≡ 0
size-none zero = refl
size-none (suc n) = omega (arith, size-cons false (replicate n false), size-none n)

pub uniform_matroid : (n c : ℕ) → IsMatroid n (λ X. size X ≤ c)
uniform_matroid n c = record {
  empty = omega (arith, size-none n);
  part = λ A B la lb sub free. let le = size-subset A B (la ∙ sym lb) (λ e l h. sub e (omega arith) h) in omega arith;
  take = λ A B la lb fa fb less.
      let w = differs A B (la ∙ sym lb) less in
      let below = w.below in
      let more = w.more in
      record { taken = w.at; below = omega arith; theirs = w.theirs; fresh = w.fresh; stays = omega arith };
}
