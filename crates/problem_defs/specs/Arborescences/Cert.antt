-- What an ask for arborescences without a misfit means, and that a certified packing of them is a certificate that meets its graph.
use Rattle.std.proofs.Common.{ℕ, ◌≡◌, ◌<◌, List, Bool, length, None, All, refl, arith, not, nat_le}
use Rattle.std.proofs.lemmas.List.Elements.{All-weaker}
use Rattle.std.proofs.lemmas.List.Sums.{count_by-le-length}
use Rattle.graph_core.specs.Graph.{GraphValue, IsGraph}
use Rattle.graph_core.specs.Lines.{enters}
use Rattle.graph_core.specs.Trees.{IsSpanningArborescence}
use Rattle.problem_defs.specs.Arborescences.{Suits, IsFeasible, IsDual, bound}
use Rattle.problem_defs.specs.Ask.{misfit_of, is_directed}
use Rattle.problem_defs.specs.Few.{small}
use Rattle.problem_defs.specs.Meets.{Meets}
use Rattle.problem_defs.specs.Suited.{left_out, directed-of, many-of}
use Rattle.problem_defs.specs.declared.ask.Ask.TheVariants.{Arborescences}
use Rattle.problem_defs.specs.declared.ask.Misfit.TheVariants.{Node, Kind as WrongKind}
use Rattle.problem_defs.specs.declared.cert.Body.TheVariants.{Parts}
use Rattle.problem_defs.specs.declared.cert.PartsDual.TheVariants.{Cut}

pub arborescences_suits : (g : GraphValue) (r : ℕ) → misfit_of g (Arborescences r) ≡ None → Suits r g
arborescences_suits g r none =
    let (right, rest) = left_out (not (is_directed g.kind)) WrongKind _ none in
    let (known, few) = left_out (nat_le (length g.names) r) Node _ rest in
    let root : r < length g.names = grind arith in
    record { kind = directed-of g.kind None (rw right refl); root = root; many = many-of (length g.names) None (omega arith) few }

pub arborescences-meet : (g : GraphValue) (r : ℕ) (rows : List (List ℕ)) (side : List Bool) → IsGraph g → misfit_of g (Arborescences r) ≡ None → IsFeasible r g rows → IsDual r g side
    → length rows ≡ bound g side → Meets g (record { ask = Arborescences r; body = Parts (length rows) rows (Cut side) })
arborescences-meet g r rows side graph suits feasible dual equal = record {
  shaped = record {
    k = tt;
    suits = suits;
    belongs = tt;
    in_range = (All-weaker (IsSpanningArborescence (length g.names) g.lines r) (All (λ j. j < length g.lines)) (λ row a. a.picks.in_range) rows feasible.each, dual.nonempty.long);
    numbers_fit = omega (arith, equal, count_by-le-length (enters side) g.lines, graph.makes.few, small);
  };
  object = feasible;
  dual = dual;
  value = (refl, equal);
}
