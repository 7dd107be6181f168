-- What a run says of an arc.
use Rattle.std.specs.Prelude.{ℕ, ◌≡◌, ◌+◌, ◌<◌, ◌⊎◌, Bool, true, false, List, length, slice_set}
use Rattle.std.proofs.Common.{sym, ap, ◌∙◌, inl, inr, arith}
use Rattle.std.proofs.lemmas.Bool.{cases_eq}
use Rattle.std.proofs.lemmas.List.{get_or-set_same, get_or-set_other}
use Rattle.graph_core.specs.Side.{has, IsOnly}
use Rattle.flow_cuts.specs.declared.network.Cap.{Cap}
use Rattle.flow_cuts.specs.Cuts.{IsLeastCapacity}
use Rattle.edmonds_branchings.specs.Network.{cap_at}
use Rattle.edmonds_branchings.specs.Round.{IsFree, IsBlocked}

module _ (n k : ℕ) (arcs : List Cap) (j answer : ℕ) (I H O : List Bool)
    (inside : IsOnly I (cap_at arcs j).tail) (other : IsOnly H (cap_at arcs j).head) (outside : O ≡ slice_set H n true) (long : length H ≡ n + 1)
    (least : IsLeastCapacity (n + 1) I O arcs k answer) where
  in_outside : (v : ℕ) → has O v ≡ true → (v ≡ (cap_at arcs j).head) ⊎ (v ≡ n)
  in_outside v h =
      elim (cases_eq v n) [
        | inl e ↦ inr e
        | inr ne ↦ inl (other.only v (sym (get_or-set_other H n v true false ne) ∙ ap (λ S. has S v) (sym outside) ∙ h))
      ]

  -- where the run reaches k, each side that the arc leaves has as much
  pub free_run : answer ≡ k → IsFree n k arcs j
  free_run e X x tail head =
      omega (
        arith,
        least.least X (record {
          long = x.long;
          holds = λ v h. ap (has X) (inside.only v h) ∙ tail;
          misses = λ v h. elim (in_outside v h) [ inl e ↦ ap (has X) e ∙ head | inr e ↦ ap (has X) e ∙ x.last_out ];
        }),
      )

  in_head : has O (cap_at arcs j).head ≡ true
  in_head =
      elim (cases_eq (cap_at arcs j).head n) [
        | inl e ↦ rw (outside, e) (get_or-set_same H n true false (omega (arith, long)))
        | inr ne ↦ rw outside (get_or-set_other H n (cap_at arcs j).head true false ne ∙ other.here)
      ]

  pub blocked_run : answer < k → IsBlocked n k arcs j
  blocked_run short =
      let (X, separates, value) = least.reached short in
      record {
        side = X;
        rootless = record {
          long = separates.long;
          some_in = ((cap_at arcs j).tail, separates.holds (cap_at arcs j).tail inside.here);
          last_out = separates.misses n (rw outside (get_or-set_same H n true false (omega (arith, long))));
        };
        tail = separates.holds (cap_at arcs j).tail inside.here;
        head = separates.misses (cap_at arcs j).head in_head;
        critical = omega (arith, value, short);
      }
