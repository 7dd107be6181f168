-- Kernels are put into the rows of their nodes.
use Rattle.std.specs.Prelude.{ℕ, zero, suc, ◌≡◌, ◌<◌, Bool, true, false, not, List, Option, Some, None, length, replicate, slice_set, refl}
use Rattle.std.proofs.Common.{◌∙◌, sym, subst, inl, inr}
use Rattle.std.specs.Option.{is_some}
use Rattle.std.proofs.lemmas.Bool.{cases_eq, both_ways}
use Rattle.std.proofs.lemmas.List.{get_or-set_same, get_or-set_other}
use Rattle.graph_core.specs.Graph.{GraphValue}
use Rattle.graph_core.specs.Side.{has}
use Rattle.dicut_lattice.specs.Tight.{IsKernel}
use Rattle.lucchesi_younger.specs.Rows.{AreAllowed, AreRows, row}

pub kernel-allowed : (g : GraphValue) (join : List ℕ) (y : ℕ) (K : List Bool) → IsKernel g join y K → AreAllowed g join y K
kernel-allowed g join y K k = record {
  long = k.long;
  inside = k.inside;
  outside = λ x below out allowed. let (U, s) = k.outside x below out in both_ways (has U x) s.misses (allowed U s.tight s.holds);
}

-- there is a kernel where the test for none says no
pub some-row : (o : Option (List Bool)) (b : Bool) → is_some o ≡ not b → b ≡ false → (K : List Bool) × (o ≡ Some K)
some-row (Some K) b e f = (K, refl)
some-row None true e f = absurd cc
some-row None false e f = absurd cc

no-row : (n v : ℕ) → row (replicate n None) v ≡ None
no-row zero v = refl
no-row (suc n) zero = refl
no-row (suc n) (suc v) = no-row n v

pub blank-rows : (g : GraphValue) (join : List ℕ) (n : ℕ) → AreRows g join (replicate n None)
blank-rows g join n v K e = let none = no-row n v in absurd cc

pub rows-put : (g : GraphValue) (join : List ℕ) (rows : List (Option (List Bool))) (v : ℕ) (K : List Bool) → v < length rows → AreRows g join rows → AreAllowed g join v K → AreRows g join (slice_set rows v (Some K))
rows-put g join rows v K below were here u J e =
    elim (cases_eq u v) [
      | inl same ↦
          let put : row (slice_set rows v (Some K)) v ≡ Some K = get_or-set_same rows v (Some K) None below in
          let there : row (slice_set rows v (Some K)) v ≡ Some J = subst (λ x. row (slice_set rows v (Some K)) x ≡ Some J) same e in
          let is : K ≡ J = cc in
          subst (λ x. AreAllowed g join x J) (sym same) (subst (λ X. AreAllowed g join v X) is here)
      | inr ne ↦ were u J (sym (get_or-set_other rows v u (Some K) None ne) ∙ e)
    ]
