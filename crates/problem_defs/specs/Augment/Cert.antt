-- Certified new edges are a certificate that meets its graph.
use Rattle.std.proofs.Common.{ℕ, ◌≡◌, ◌-◌, ◌*◌, ◌<◌, ◌≤◌, ◌==◌, ◌^◌, Bool, List, length, None, All, sum_by, refl, arith, inl, inr}
use Rattle.std.proofs.lemmas.Bool.{cases_Bool, eqb-true, eqb-false}
use Rattle.std.proofs.lemmas.List.Elements.{All-weaker}
use Rattle.graph_core.specs.Limits.{most_k}
use Rattle.graph_core.specs.Graph.{GraphValue, IsGraph}
use Rattle.graph_core.specs.Side.{IsNonempty, IsProper}
use Rattle.graph_core.specs.Lines.{degree}
use Rattle.graph_core.proofs.FamilyLaws.{length-partition}
use Rattle.problem_defs.specs.Ask.{misfit_of, KIsInRange}
use Rattle.problem_defs.specs.Augment.{Suits, IsFeasible, IsDual, bound}
use Rattle.problem_defs.specs.Augment.Law.{few_members, two_or_more}
use Rattle.problem_defs.specs.Ceil.{div_ceil-le}
use Rattle.problem_defs.specs.Meets.{Meets}
use Rattle.problem_defs.specs.NewLines.{new-nodes, few_new}
use Rattle.problem_defs.specs.Suited.{undirected-of}
use Rattle.problem_defs.specs.declared.ask.Ask.TheVariants.{Augment}
use Rattle.problem_defs.specs.declared.cert.Body.TheVariants.{Edges}

pub augment_suits : (g : GraphValue) (k : ℕ) → KIsInRange (Augment k) → misfit_of g (Augment k) ≡ None → Suits k g
augment_suits g k range none = record { low = range.0; high = range.1; kind = undirected-of g.kind None none }

-- the sides have length n, and the bound fits a number
long_and_few : (g : GraphValue) (k : ℕ) (P : List (List Bool)) → IsGraph g → 1 ≤ k → k ≤ most_k → IsDual k g P → All (λ X. length X ≡ length g.names) P × (bound k g P < 2 ^ 64)
long_and_few g k P graph low high dual =
    elim (cases_Bool (k == 1)) [
      | inl one ↦
          let split = dual.1 (eqb-true k 1 one) in (
            All-weaker (IsNonempty (length g.names)) (λ X. length X ≡ length g.names) (λ X some. some.long) P split.partition.nonempty,
            rw one (omega (arith, length-partition (length g.names) P split.partition, graph.makes.nodes)),
          )
      | inr more ↦
          let two : 2 ≤ k = (let ne = eqb-false k 1 more in two_or_more k low ne) in
          let lack = k * length P - sum_by (λ X. degree X g.lines) P in
          let most = few_new k (length P) high (few_members k g P graph two dual) in (
            All-weaker (IsProper (length g.names)) (λ X. length X ≡ length g.names) (λ X p. p.long) P (dual.0 two).proper,
            rw more (omega (arith, div_ceil-le lack 2 lack (omega arith) (omega arith), most)),
          )
    ]

pub augment-meets : (g : GraphValue) (k : ℕ) (pairs : List (ℕ × ℕ)) (P : List (List Bool)) → IsGraph g → KIsInRange (Augment k) → misfit_of g (Augment k) ≡ None → IsFeasible k g pairs → IsDual k g P → length pairs ≡ bound k g P
    → Meets g (record { ask = Augment k; body = Edges (length pairs) pairs P })
augment-meets g k pairs P graph range suits feasible dual equal =
    let (long, few) = long_and_few g k P graph range.0 range.1 dual in
    record {
      shaped = record {
        k = range;
        suits = suits;
        belongs = tt;
        in_range = (new-nodes (length g.names) pairs feasible.fit, long);
        numbers_fit = omega (arith, equal, few);
      };
      object = feasible;
      dual = dual;
      value = (refl, equal);
    }
