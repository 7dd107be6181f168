-- What an ask for forests without a misfit means, and that a certified cover by them is a certificate that meets its graph.
use Rattle.std.proofs.Common.{ℕ, ◌≡◌, ◌-◌, ◌<◌, ◌≤◌, List, Bool, length, None, All, refl, arith}
use Rattle.std.proofs.Math.Nat.{mul-le-mul_left}
use Rattle.std.proofs.lemmas.List.Elements.{All-weaker}
use Rattle.std.proofs.lemmas.List.Sums.{count_by-le-length}
use Rattle.graph_core.specs.Graph.{GraphValue, IsGraph}
use Rattle.graph_core.specs.Lines.{within, induced}
use Rattle.graph_core.specs.Side.{size}
use Rattle.graph_core.specs.Trees.{IsForest}
use Rattle.problem_defs.specs.Ask.{misfit_of}
use Rattle.problem_defs.specs.Ceil.{div_ceil-le}
use Rattle.problem_defs.specs.Forests.{Suits, IsFeasible, IsDual, bound}
use Rattle.problem_defs.specs.Few.{small}
use Rattle.problem_defs.specs.Meets.{Meets}
use Rattle.problem_defs.specs.PartsDual.{parts_dual}
use Rattle.problem_defs.specs.Suited.{undirected-of}
use Rattle.problem_defs.specs.declared.ask.Ask.TheVariants.{Forests}
use Rattle.problem_defs.specs.declared.cert.Body.TheVariants.{Parts}
use Rattle.problem_defs.specs.declared.cert.ForestDual.TheVariants.{Nothing, Induced}
use Rattle.problem_defs.specs.declared.cert.ForestDual.{ForestDual}
use Rattle.problem_defs.specs.declared.cert.PartsDual.TheVariants.{Induced as InducedSide, Nothing as NoDual}

pub forests_suits : (g : GraphValue) → misfit_of g Forests ≡ None → Suits g
forests_suits g none = record { kind = undirected-of g.kind None none }

rows_in_range : (g : GraphValue) (rows : List (List ℕ)) → IsFeasible g rows → All (All (λ j. j < length g.lines)) rows
rows_in_range g rows feasible = All-weaker (IsForest (length g.names) g.lines) (All (λ j. j < length g.lines)) (λ row forest. forest.picks.in_range) rows feasible.each

-- no more forests than edges
covers-meet : (g : GraphValue) (rows : List (List ℕ)) (side : List Bool) → IsGraph g → misfit_of g Forests ≡ None → IsFeasible g rows → IsDual g (Induced side)
    → length rows ≡ bound g (Induced side) → Meets g (record { ask = Forests; body = Parts (length rows) rows (InducedSide side) })
covers-meet g rows side graph suits feasible dual equal =
    let inside = induced side g.lines in
    let pos : 1 ≤ size side - 1 = omega (arith, dual.1) in
    let few : bound g (Induced side) ≤ inside = div_ceil-le inside (size side - 1) inside (omega arith) (grind (arith, mul-le-mul_left inside pos)) in
    record {
      shaped = record {
        k = tt;
        suits = suits;
        belongs = tt;
        in_range = (rows_in_range g rows feasible, dual.0.long);
        numbers_fit = omega (arith, equal, few, count_by-le-length (within side) g.lines, graph.makes.few, small);
      };
      object = feasible;
      dual = dual;
      value = (refl, equal);
    }

nothing-meets : (g : GraphValue) (rows : List (List ℕ)) → misfit_of g Forests ≡ None → IsFeasible g rows → length rows ≡ bound g Nothing
    → Meets g (record { ask = Forests; body = Parts (length rows) rows NoDual })
nothing-meets g rows suits feasible equal = record {
  shaped = record {
    k = tt;
    suits = suits;
    belongs = tt;
    in_range = (rows_in_range g rows feasible, tt);
    numbers_fit = omega (arith, equal, small);
  };
  object = feasible;
  dual = tt;
  value = (refl, equal);
}

pub forests-meet : (g : GraphValue) (rows : List (List ℕ)) (dual : ForestDual) → IsGraph g → misfit_of g Forests ≡ None → IsFeasible g rows → IsDual g dual → length rows ≡ bound g dual
    → Meets g (record { ask = Forests; body = Parts (length rows) rows (parts_dual dual) })
forests-meet g rows Nothing graph suits feasible dual equal = nothing-meets g rows suits feasible equal
forests-meet g rows (Induced side) graph suits feasible dual equal = covers-meet g rows side graph suits feasible dual equal
