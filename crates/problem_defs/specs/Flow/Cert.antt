-- What an ask for walks without a misfit means, and that certified walks with their cut are a certificate that meets its graph.
use Rattle.std.proofs.Common.{ℕ, ◌≡◌, ◌<◌, List, [], ◌∷◌, Bool, length, None, All, refl, arith, ◌||◌, ◌==◌, nat_le}
use Rattle.std.proofs.lemmas.Option.{slice_get_within}
use Rattle.std.proofs.lemmas.List.Elements.{All-nil, All-cons, All-weaker}
use Rattle.std.proofs.lemmas.List.Sums.{count_by-le-length}
use Rattle.graph_core.specs.Graph.{GraphValue, IsGraph}
use Rattle.graph_core.specs.Lines.{cut_by}
use Rattle.graph_core.specs.Walks.{IsWay, IsWalk}
use Rattle.graph_core.specs.declared.graph.Kind.{Kind}
use Rattle.graph_core.specs.declared.graph.Line.{Line}
use Rattle.problem_defs.specs.Ask.{misfit_of}
use Rattle.problem_defs.specs.Few.{small}
use Rattle.problem_defs.specs.Flow.{Suits, IsFeasible, IsDual, bound}
use Rattle.problem_defs.specs.Meets.{Meets}
use Rattle.problem_defs.specs.Suited.{left_out}
use Rattle.problem_defs.specs.declared.ask.Ask.TheVariants.{Flow}
use Rattle.problem_defs.specs.declared.ask.Misfit.TheVariants.{Node, Same}
use Rattle.problem_defs.specs.declared.cert.Body.TheVariants.{Walks}

pub flow_suits : (g : GraphValue) (s t : ℕ) → misfit_of g (Flow s t) ≡ None → Suits s t g
flow_suits g s t none =
    let (known, rest) = left_out (nat_le (length g.names) s || nat_le (length g.names) t) Node _ none in
    let (apart, end) = left_out (s == t) Same _ rest in
    record {
      from = grind arith;
      to = grind arith;
      apart = grind arith;
    }

way_in_range : (k : Kind) (ls : List Line) (u t : ℕ) (w : List ℕ) → IsWay k ls u t w → All (λ j. j < length ls) w
way_in_range k ls u t [] way = All-nil (λ j. j < length ls)
way_in_range k ls u t (j ∷ w) (v, (l, at, leads), rest) = All-cons (λ i. i < length ls) j w (slice_get_within ls j l at) (way_in_range k ls v t w rest)

pub flow-meets : (g : GraphValue) (s t : ℕ) (rows : List (List ℕ)) (cut : List Bool) → IsGraph g → misfit_of g (Flow s t) ≡ None → IsFeasible s t g rows → IsDual s t g cut → length rows ≡ bound g cut
    → Meets g (record { ask = Flow s t; body = Walks (length rows) rows cut })
flow-meets g s t rows cut graph suits feasible dual equal = record {
  shaped = record {
    k = tt;
    suits = suits;
    belongs = tt;
    in_range = (All-weaker (IsWalk g.kind g.lines s t) (All (λ j. j < length g.lines)) (λ w walk. way_in_range g.kind g.lines s t w walk.way) rows feasible.each, dual.long);
    numbers_fit = omega (arith, equal, count_by-le-length (cut_by g.kind cut) g.lines, graph.makes.few, small);
  };
  object = feasible;
  dual = dual;
  value = (refl, equal);
}
