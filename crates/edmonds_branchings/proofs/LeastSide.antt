-- A least side is found node by node.
use Rattle.std.specs.Prelude.{ℕ, ◌≡◌, ◌≢◌, ◌+◌, ◌<◌, ◌≤◌, not, Bool, true, false, List, length, map, get_or}
use Rattle.std.proofs.Common.{sym, ap, ◌∙◌, subst, inl, inr, arith}
use Rattle.std.proofs.lemmas.Bool.{cases_eq, cases_lt, false_from_ne_true}
use Rattle.std.proofs.lemmas.List.{length-map, get_or_default}
use Rattle.graph_core.specs.Side.{has, complement, IsOnly, IsNonempty}
use Rattle.graph_core.specs.Lines.{entering}
use Rattle.graph_core.proofs.SideLaws.{contains-has, has-complement}
use Rattle.graph_core.specs.declared.graph.Line.{Line}
use Rattle.flow_cuts.specs.Cuts.{IsLeastCapacity, IsMinimumCut}
use Rattle.flow_cuts.specs.NewNode.{arc_by}
use Rattle.flow_cuts.proofs.NewNodes.{capacity-arcs_by}
use Rattle.problem_defs.specs.declared.cert.Way.TheVariants.{Entering}
use Rattle.edmonds_branchings.specs.LeastSide.{IsLeastSide}

-- a nonempty side without r, entered by no more arcs than one that holds a node below v
pub record IsLeastBelow (n v : ℕ) (ls : List Line) (r value : ℕ) (X : List Bool) : Type 0 where
  pub nonempty : IsNonempty n X
  pub misses : has X r ≡ false
  pub value_is : entering X ls ≡ value
  pub least : (Y : List Bool) → length Y ≡ n → has Y r ≡ false → (u : ℕ) → u < v → has Y u ≡ true → value ≤ entering Y ls

-- all nodes but the root
pub least_first : {n r value : ℕ} {ls : List Line} {H X : List Bool} → r < n → 2 ≤ n → IsOnly H r → length H ≡ n → X ≡ complement H → value ≡ entering X ls → IsLeastBelow n 0 ls r value X
least_first {n} {r} {value} {ls} {H} {X} below many only long is value_is =
    let there : (v : ℕ) → v < n → v ≢ r → has X v ≡ true = λ v l ne. ap (λ S. has S v) is ∙ has-complement H v (omega arith) ∙ ap not (false_from_ne_true (has H v) (λ h. ne (only.only v h))) in
    let some : (v : ℕ) × (has X v ≡ true) = elim (cases_eq r 0) [ inl e ↦ (1, there 1 (omega arith) (λ q. absurd (omega arith))) | inr ne ↦ (0, there 0 (omega arith) (λ q. ne (sym q))) ] in
    record {
      nonempty = record { long = ap length is ∙ length-map H not ∙ long; some_in = contains-has X some.0 some.1 };
      misses = ap (λ S. has S r) is ∙ has-complement H r (omega arith) ∙ ap not only.here;
      value_is = sym value_is;
      least = λ Y y out u l. absurd (omega arith);
    }

module _ {n v r value : ℕ} {ls : List Line} {X : List Bool} (b : IsLeastBelow n v ls r value X) where
  -- no side without the root holds it
  pub least_skip : v ≡ r → IsLeastBelow n (v + 1) ls r value X
  least_skip e = record {
    nonempty = b.nonempty;
    misses = b.misses;
    value_is = b.value_is;
    least = λ Y y out u l h. elim (cases_lt u v) [ inl lt ↦ b.least Y y out u lt h | inr ge ↦ (let same : u ≡ r = omega arith in absurd (cc (ap (has Y) same, h, out))) ];
  }

  pub least_next : {answer : ℕ} {I O Z : List Bool} → IsOnly I v → IsOnly O r → IsLeastCapacity n I O (map (arc_by Entering) ls) value answer
      → (value ≤ answer → Z ≡ X) → (answer < value → IsMinimumCut n I O (map (arc_by Entering) ls) answer Z) → IsLeastBelow n (v + 1) ls r answer Z
  least_next {answer} {I} {O} {Z} inside outside least kept cut =
      let below : (Y : List Bool) → length Y ≡ n → has Y r ≡ false → (u : ℕ) → u < v + 1 → has Y u ≡ true → answer ≤ entering Y ls = λ Y y out u l h.
      elim (cases_lt u v) [
        | inl lt ↦ omega (arith, least.stopped, b.least Y y out u lt h)
        | inr ge ↦
            let same : v ≡ u = omega arith in
            omega (
              arith,
              capacity-arcs_by Entering Y ls,
              least.least Y (record {
                long = y;
                holds = λ w i. ap (has Y) (inside.only w i ∙ same) ∙ h;
                misses = λ w o. ap (has Y) (outside.only w o) ∙ out;
              }),
            )
      ] in
      elim (cases_lt answer value) [
        | inl lt ↦
            let c = cut lt in
            record {
              nonempty = record { long = c.separates.long; some_in = contains-has Z v (c.separates.holds v inside.here) };
              misses = c.separates.misses r outside.here;
              value_is = sym (capacity-arcs_by Entering Z ls) ∙ c.value_is;
              least = below;
            }
        | inr ge ↦
            let same : Z ≡ X = kept ge in
            let all : value ≡ answer = omega (arith, least.stopped) in
            record {
              nonempty = subst (IsNonempty n) (sym same) b.nonempty;
              misses = ap (λ S. has S r) same ∙ b.misses;
              value_is = ap (λ S. entering S ls) same ∙ b.value_is ∙ all;
              least = below;
            }
      ]

  pub least_all : n ≤ v → IsLeastSide n ls r X
  least_all all = record {
    nonempty = b.nonempty;
    misses = b.misses;
    least = λ Y y out. let (k, l, e) = y.some_in in omega (arith, b.value_is, b.least Y y.long out k (omega (arith, y.long)) (true_at Y k l e));
  }
    where
      true_at : (Y : List Bool) (k : ℕ) → k < length Y → get_or Y k true ≡ true → has Y k ≡ true
      true_at Y k l e = get_or_default Y k false true l ∙ e
