-- A side that no line of a list crosses splits each side in two, with its lines.
use Rattle.std.specs.Prelude.{ℕ, suc, ◌≡◌, ◌+◌, ◌<◌, ◌≤◌, Bool, true, false, not, ◌&&◌, List, [], ◌∷◌, length, remove, slice_index_or, All, refl}
use Rattle.std.proofs.Common.{sym, ap, ◌∙◌, arith, inl, inr}
use Rattle.std.proofs.lemmas.Bool.{cases_Bool, and_parts}
use Rattle.std.proofs.lemmas.List.Elements.{All-tail}
use Rattle.std.proofs.lemmas.List.Sums.{sum_by-cons}
use Rattle.std.proofs.lemmas.Simd.{length-zip2}
use Rattle.graph_core.specs.Side.{has, size, meet, minus}
use Rattle.graph_core.specs.Lines.{within, induced}
use Rattle.graph_core.proofs.SideLaws.{has-zip2, has-minus, contains-has}
use Rattle.graph_core.proofs.Counting.{weight, sum_by-add, sum_by-agree}
use Rattle.graph_core.proofs.FamilyLaws.{size-nonempty}
use Rattle.graph_core.specs.declared.graph.Line.{Line}

split_within : (a b c d : Bool) → c ≡ d → weight (a && b) ≡ weight ((a && c) && (b && d)) + weight ((a && not c) && (b && not d))
split_within a b c d h = grind arith

split_size : (x z : Bool) → weight x ≡ weight (x && z) + weight (x && not z)
split_size x z = grind arith

pub size-split : (X Z : List Bool) → length X ≡ length Z → size X ≡ size (meet X Z) + size (minus X Z)
size-split [] [] e = refl
size-split [] (z ∷ Z) e = absurd (omega arith)
size-split (x ∷ X) [] e = absurd (omega arith)
size-split (x ∷ X) (z ∷ Z) e =
    omega (arith, size-split X Z (omega arith), split_size x z, sum_by-cons weight x X, sum_by-cons weight (x && z) (meet X Z), sum_by-cons weight (x && not z) (minus X Z))

-- no line crosses Z
abbrev pub AreUncrossed : List Bool → List Line → Type 0
AreUncrossed Z ls = All (λ l. has Z l.tail ≡ has Z l.head) ls

-- such lines lie within one of the two parts into which Z splits X, where they lie within X
pub induced-split : (X Z : List Bool) → length X ≡ length Z → (ls : List Line) → AreUncrossed Z ls → induced X ls ≡ induced (meet X Z) ls + induced (minus X Z) ls
induced-split X Z e ls h =
    sum_by-agree (λ l. weight (within X l)) (λ l. weight (within (meet X Z) l) + weight (within (minus X Z) l)) ls
    (λ j d k.
    let l = slice_index_or ls j d in
    rw (has-zip2 ◌&&◌ refl X Z l.tail e, has-zip2 ◌&&◌ refl X Z l.head e, has-minus X Z l.tail e, has-minus X Z l.head e)
    (split_within (has X l.tail) (has X l.head) (has Z l.tail) (has Z l.head) (h j d k)))
    ∙ sum_by-add (λ l. weight (within (meet X Z) l)) (λ l. weight (within (minus X Z) l)) ls

pub size-has : (X : List Bool) (v : ℕ) → has X v ≡ true → 1 ≤ size X
size-has X v h = size-nonempty X (contains-has X v h)

-- a side that line j leaves and no other line crosses
pub record IsSideOf (n : ℕ) (ls : List Line) (j : ℕ) (Z : List Bool) : Type 0 where
  pub long : length Z ≡ n
  pub holds : (d : Line) → has Z (slice_index_or ls j d).tail ≡ true
  pub misses : (d : Line) → has Z (slice_index_or ls j d).head ≡ false
  pub uncrossed : AreUncrossed Z (remove ls j)

-- Where each line has such a side, fewer lines than nodes lie within X: the side of one that does splits X in two, and each of the others that do lies within a part.
pub few_within : {n : ℕ} (ls : List Line) → ((j : ℕ) → j < length ls → (Z : List Bool) × IsSideOf n ls j Z) → (X : List Bool) → length X ≡ n → 1 ≤ size X → induced X ls < size X
few_within [] sides X e some = omega arith
few_within {n} (l ∷ ls) sides X e some =
    let rest : (j : ℕ) → j < length ls → (Z : List Bool) × IsSideOf n ls j Z = λ j lt.
    let (Z, s) = sides (suc j) (omega arith) in
    (Z, record { long = s.long; holds = s.holds; misses = s.misses; uncrossed = All-tail (λ k. has Z k.tail ≡ has Z k.head) l (remove ls j) s.uncrossed }) in
    let total = sum_by-cons (λ k. weight (within X k)) l ls in
    elim (cases_Bool (within X l)) [
      | inr out ↦ omega (arith, ap weight out, few_within ls rest X e some)
      | inl both ↦
          let (Z, s) = sides 0 (omega arith) in
          let same : length X ≡ length Z = e ∙ sym s.long in
          let ends = and_parts (has X l.tail) (has X l.head) both in
          let tail : has (meet X Z) l.tail ≡ true = has-zip2 ◌&&◌ refl X Z l.tail same ∙ (λ z. ends.0 z && s.holds l z) in
          let head : has (minus X Z) l.head ≡ true = has-minus X Z l.head same ∙ (λ z. ends.1 z && not (s.misses l z)) in
          let near = few_within ls rest (meet X Z) (length-zip2 ◌&&◌ X Z same ∙ e) (size-has (meet X Z) l.tail tail) in
          let far = few_within ls rest (minus X Z) (length-zip2 (λ x y. x && not y) X Z same ∙ e) (size-has (minus X Z) l.head head) in
          omega (arith, ap weight both, induced-split X Z same ls s.uncrossed, size-split X Z same)
    ]
