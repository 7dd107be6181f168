-- A side with one node, with one more, and sides that lack nodes.
use Rattle.std.specs.Prelude.{ℕ, zero, suc, ◌≡◌, ◌+◌, ◌<◌, Bool, true, false, List, [], ◌∷◌, length, slice_set, refl}
use Rattle.std.proofs.Common.{ap, ◌∙◌, inl, inr, arith}
use Rattle.std.proofs.lemmas.Bool.{cases_eq, false_from_ne_true}
use Rattle.std.proofs.lemmas.List.{get_or-set_same, get_or-set_other}
use Rattle.std.proofs.lemmas.List.Sums.{sum_by-cons, count_by-le-length}
use Rattle.graph_core.specs.Side.{has, size, IsOnly}
use Rattle.graph_core.proofs.Counting.{weight}
use Rattle.graph_core.proofs.SizeLaws.{size-none}
use Rattle.graph_core.proofs.SideLaws.{has-below}

size-cons : (x : Bool) (X : List Bool) → size (x ∷ X) ≡ weight x + size X
size-cons x X = sum_by-cons weight x X

-- one node more
pub size-put : (X : List Bool) (v : ℕ) → v < length X → has X v ≡ false → size (slice_set X v true) ≡ size X + 1
size-put [] v l out = absurd (omega arith)
size-put (x ∷ X) zero l out = omega (arith, size-cons true X, size-cons x X, ap weight out)
size-put (x ∷ X) (suc v) l out = omega (arith, size-cons x (slice_set X v true), size-cons x X, size-put X v (omega arith) out)

pub size-only : (X : List Bool) (v : ℕ) → IsOnly X v → size X ≡ 1
size-only [] v one = let here = one.here in absurd cc
size-only (x ∷ X) zero one =
    omega (arith, size-cons x X, ap weight one.here, size-none X (λ k. false_from_ne_true (has X k) (λ more. let e = one.only (suc k) more in absurd (omega arith))))
size-only (x ∷ X) (suc v) one =
    let off : x ≡ false = false_from_ne_true x (λ more. let e = one.only 0 more in absurd (omega arith)) in
    omega (arith, size-cons x X, ap weight off, size-only X v (record { here = one.here; only = λ u more. let e = one.only (suc u) more in omega arith }))

-- a side that lacks nodes lacks one
pub some_missing : (X : List Bool) → size X < length X → (v : ℕ) × (v < length X) × (has X v ≡ false)
some_missing [] h = absurd (omega arith)
some_missing (false ∷ X) h = (0, omega arith, refl)
some_missing (true ∷ X) h =
    let (v, l, out) = some_missing X (omega (arith, size-cons true X)) in (suc v, omega arith, out)

-- one that lacks none has each
pub all_there : (X : List Bool) → size X ≡ length X → (v : ℕ) → v < length X → has X v ≡ true
all_there [] e v l = absurd (omega arith)
all_there (false ∷ X) e v l = absurd (omega (arith, size-cons false X, count_by-le-length (λ b. b) X))
all_there (true ∷ X) e zero l = refl
all_there (true ∷ X) e (suc v) l = all_there X (omega (arith, size-cons true X)) v (omega arith)

pub put_here : (X : List Bool) (v : ℕ) → v < length X → has (slice_set X v true) v ≡ true
put_here X v l = get_or-set_same X v true false l

pub put_kept : (X : List Bool) (v u : ℕ) → has X u ≡ true → has (slice_set X v true) u ≡ true
put_kept X v u h =
    elim (cases_eq u v) [
      | inl e ↦ rw e (put_here X v (rw e at (has-below X u h)))
      | inr ne ↦ get_or-set_other X v u true false ne ∙ h
    ]
