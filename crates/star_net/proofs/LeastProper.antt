-- The least value of a proper side that holds a node, by sides that hold it and miss another.
use Rattle.std.specs.Prelude.{ℕ, ◌≡◌, ◌+◌, ◌-◌, ◌<◌, ◌≤◌, Bool, true, false, List, length}
use Rattle.std.proofs.Common.{sym, ap, ◌∙◌, subst, inl, inr, arith}
use Rattle.std.proofs.lemmas.Bool.{cases_lt, false_from_ne_true}
use Rattle.std.proofs.lemmas.List.{get_or_past}
use Rattle.graph_core.specs.Side.{has, IsOnly}
use Rattle.graph_core.proofs.ProperLaws.{is_proper}
use Rattle.cut_fn.specs.TwoSides.{IsWithin}
use Rattle.flow_cuts.specs.LeastMissing.{IsLeastMissing}
use Rattle.star_net.specs.LeastProper.{HasProper, IsLeastProper}

held : {H Y : List Bool} {v : ℕ} → IsOnly H v → has Y v ≡ true → IsWithin H Y
held {H} {Y} {v} only i = record { at = λ u j. ap (has Y) (only.only u j) ∙ i }

-- a node but the last, where no side that holds both has less than stop
pub node_least : {n v stop value : ℕ} {f : List Bool → ℕ} {H X : List Bool} → IsOnly H v → v + 1 < n
    → ((Y : List Bool) → has Y v ≡ true → has Y (n - 1) ≡ true → stop ≤ f Y) → IsLeastMissing n f H n stop value X → IsLeastProper n f v stop value X
node_least {n} {v} {stop} {value} {f} {H} {X} only l both a = record {
  stopped = a.stopped;
  least = λ Y p i. a.least Y p.long (held only i) (get_or_past Y n false (omega (arith, p.long)));
  reached = λ short.
      let c = a.reached short in
      let holds : has X v ≡ true = c.holds.at v only.here in
      let out : has X (n - 1) ≡ false = false_from_ne_true (has X (n - 1)) (λ i. absurd (omega (arith, both X holds i, c.value_is))) in
      record { proper = is_proper X v (n - 1) c.long holds (omega arith) out; holds = holds; value_is = c.value_is };
}

-- the least value of a side that holds a node and misses one below u
pub record IsLeastBelow (n : ℕ) (f : List Bool → ℕ) (v u stop value : ℕ) (X : List Bool) : Type 0 where
  pub stopped : value ≤ stop
  pub least : (Y : List Bool) → length Y ≡ n → has Y v ≡ true → (w : ℕ) → w < u → has Y w ≡ false → value ≤ f Y
  pub reached : value < stop → HasProper n f v value X

module _ {n v stop value : ℕ} {f : List Bool → ℕ} {X : List Bool} where
  pub below_next : {u value' : ℕ} {H X' : List Bool} → u < n → IsOnly H v → IsLeastBelow n f v u stop value X
      → IsLeastMissing n f H u value value' X' → (value ≤ value' → X' ≡ X) → IsLeastBelow n f v (u + 1) stop value' X'
  below_next {u} {value'} {H} {X'} l only b a kept = record {
    stopped = omega (arith, a.stopped, b.stopped);
    least = λ Y y i w lw out.
        elim (cases_lt w u) [
          | inl lt ↦ omega (arith, b.least Y y i w lt out, a.stopped)
          | inr ge ↦ (let same : w ≡ u = omega arith in a.least Y y (held only i) (ap (has Y) (sym same) ∙ out))
        ];
    reached = λ short.
        elim (cases_lt value' value) [
          | inl less ↦
              let c = a.reached less in
              let holds = c.holds.at v only.here in
              record { proper = is_proper X' v u c.long holds l c.misses; holds = holds; value_is = c.value_is }
          | inr ge ↦
              let same : value ≡ value' = omega (arith, a.stopped) in
              subst (λ Z. HasProper n f v value' Z) (sym (kept ge)) (subst (λ x. HasProper n f v x X) same (b.reached (omega arith)))
        ];
  }

  -- a proper side that holds the last node misses one before
  pub last_least : v + 1 ≡ n → IsLeastBelow n f v v stop value X → IsLeastProper n f v stop value X
  last_least e b = record {
    stopped = b.stopped;
    least = λ Y p i.
        let (j, l, out) = p.some_out in
        let other : (j ≡ v → ⊥) = λ same. absurd (cc (ap (has Y) same, i, out)) in
        b.least Y p.long i j (omega (arith, p.long)) out;
    reached = b.reached;
  }
