-- What an ask for trees without a misfit means, and that a certified packing of them is a certificate that meets its graph.
use Rattle.std.proofs.Common.{ℕ, ◌≡◌, ◌-◌, ◌<◌, ◌≤◌, List, Bool, length, None, All, refl, arith}
use Rattle.std.proofs.Math.Nat.{div-le_self}
use Rattle.std.proofs.lemmas.List.Elements.{All-weaker}
use Rattle.std.proofs.lemmas.List.Sums.{count_by-le-length}
use Rattle.graph_core.specs.Graph.{GraphValue, IsGraph}
use Rattle.graph_core.specs.Lines.{parted, between}
use Rattle.graph_core.specs.Side.{IsNonempty}
use Rattle.graph_core.specs.Trees.{IsSpanningTree}
use Rattle.problem_defs.specs.Ask.{misfit_of, is_directed}
use Rattle.problem_defs.specs.Few.{small}
use Rattle.problem_defs.specs.Meets.{Meets}
use Rattle.problem_defs.specs.Suited.{left_out, undirected-of, many-of}
use Rattle.problem_defs.specs.Trees.{Suits, IsFeasible, IsDual, bound}
use Rattle.problem_defs.specs.declared.ask.Ask.TheVariants.{Trees}
use Rattle.problem_defs.specs.declared.ask.Misfit.TheVariants.{Kind as WrongKind}
use Rattle.problem_defs.specs.declared.cert.Body.TheVariants.{Parts}
use Rattle.problem_defs.specs.declared.cert.PartsDual.TheVariants.{Partition}

pub trees_suits : (g : GraphValue) → 1 ≤ length g.names → misfit_of g Trees ≡ None → Suits g
trees_suits g some none =
    let (right, rest) = left_out (is_directed g.kind) WrongKind _ none in
    record { kind = undirected-of g.kind None (rw right refl); many = many-of (length g.names) None some rest }

pub trees-meet : (g : GraphValue) (rows : List (List ℕ)) (classes : List (List Bool)) → IsGraph g → misfit_of g Trees ≡ None → IsFeasible g rows → IsDual g classes
    → length rows ≡ bound g classes → Meets g (record { ask = Trees; body = Parts (length rows) rows (Partition classes) })
trees-meet g rows classes graph suits feasible dual equal = record {
  shaped = record {
    k = tt;
    suits = suits;
    belongs = tt;
    in_range = (
      All-weaker (IsSpanningTree (length g.names) g.lines) (All (λ j. j < length g.lines)) (λ row tree. tree.forest.picks.in_range) rows feasible.each,
      All-weaker (IsNonempty (length g.names)) (λ X. length X ≡ length g.names) (λ X some. some.long) classes dual.partition.nonempty,
    );
    numbers_fit = omega (arith, equal, div-le_self (between classes g.lines) (length classes - 1), count_by-le-length (parted classes) g.lines, graph.makes.few, small);
  };
  object = feasible;
  dual = dual;
  value = (refl, equal);
}
