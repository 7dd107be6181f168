-- Certified new arcs are a certificate that meets its graph.
use Rattle.std.proofs.Common.{ℕ, ◌≡◌, List, length, None, refl, arith}
use Rattle.std.proofs.lemmas.List.Elements.{All-weaker}
use Rattle.graph_core.specs.Graph.{GraphValue, IsGraph}
use Rattle.graph_core.specs.Side.{IsProper}
use Rattle.problem_defs.specs.Ask.{misfit_of, KIsInRange}
use Rattle.problem_defs.specs.AugmentArcs.{Suits, IsFeasible, IsDual, bound}
use Rattle.problem_defs.specs.AugmentArcs.Law.{few_members}
use Rattle.problem_defs.specs.Meets.{Meets}
use Rattle.problem_defs.specs.NewLines.{new-nodes, few_new}
use Rattle.problem_defs.specs.Suited.{directed-of}
use Rattle.problem_defs.specs.declared.ask.Ask.TheVariants.{AugmentArcs}
use Rattle.problem_defs.specs.declared.cert.Body.TheVariants.{Arcs}
use Rattle.problem_defs.specs.declared.cert.Family.{Family}

pub augment_arcs_suits : (g : GraphValue) (k : ℕ) → KIsInRange (AugmentArcs k) → misfit_of g (AugmentArcs k) ≡ None → Suits k g
augment_arcs_suits g k range none = record { low = range.0; high = range.1; kind = directed-of g.kind None none }

pub augment_arcs-meets : (g : GraphValue) (k : ℕ) (pairs : List (ℕ × ℕ)) (dual : Family) → IsGraph g → KIsInRange (AugmentArcs k) → misfit_of g (AugmentArcs k) ≡ None → IsFeasible k g pairs → IsDual g dual → length pairs ≡ bound k g dual
    → Meets g (record { ask = AugmentArcs k; body = Arcs (length pairs) pairs dual.way dual.sides })
augment_arcs-meets g k pairs dual graph range suits feasible is equal = record {
  shaped = record {
    k = range;
    suits = suits;
    belongs = tt;
    in_range = (new-nodes (length g.names) pairs feasible.fit, All-weaker (IsProper (length g.names)) (λ X. length X ≡ length g.names) (λ X p. p.long) dual.sides is.proper);
    numbers_fit = (let most = few_new k (length dual.sides) range.1 (few_members g dual graph is) in omega (arith, equal, most));
  };
  object = feasible;
  dual = is;
  value = (refl, equal);
}
