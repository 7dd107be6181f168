-- A certified dijoin is a certificate that meets its graph.
use Rattle.std.proofs.Common.{ℕ, ◌≡◌, ◌<◌, ◌≤◌, ◌^◌, List, Bool, length, None, refl, arith, lit<}
use Rattle.std.proofs.lemmas.List.Elements.{All-weaker}
use Rattle.std.proofs.lemmas.List.Sums.{sum_by-le}
use Rattle.graph_core.specs.Limits.{most_cost}
use Rattle.graph_core.specs.Graph.{GraphValue, IsGraph, IsPriced}
use Rattle.graph_core.specs.Picked.{picked, IsDistinct}
use Rattle.graph_core.proofs.Counting.{All-picked}
use Rattle.graph_core.proofs.PickedLaws.{length-picked-le}
use Rattle.problem_defs.specs.Ask.{misfit_of}
use Rattle.problem_defs.specs.Dijoin.{Suits, IsClosed, IsFeasible, IsDual, cost}
use Rattle.problem_defs.specs.Meets.{Meets}
use Rattle.problem_defs.specs.Suited.{directed-of}
use Rattle.problem_defs.specs.declared.ask.Ask.TheVariants.{Dijoin}
use Rattle.problem_defs.specs.declared.cert.Body.TheVariants.{Join}

small : 6553600 < 2 ^ 64
small = lit< tt

pub dijoin_suits : (g : GraphValue) → misfit_of g Dijoin ≡ None → Suits g
dijoin_suits g none = record { kind = directed-of g.kind None none }

-- no line costs more than 100
pub cost-le : (g : GraphValue) (join : List ℕ) → IsGraph g → IsDistinct join → cost g join ≤ 6553600
cost-le g join graph distinct =
    let each = All-picked (λ l. l.cost ≤ most_cost) g.lines join (All-weaker (IsPriced g.kind) (λ l. l.cost ≤ most_cost) (λ l p. p.most) g.lines graph.makes.priced) in
    omega (arith, sum_by-le (λ l. l.cost) 100 (picked g.lines join) each, length-picked-le g.lines join distinct, graph.makes.few)

pub dijoin-meets : (g : GraphValue) (join : List ℕ) (sides : List (List Bool)) → IsGraph g → misfit_of g Dijoin ≡ None → IsFeasible g join → IsDual g sides
    → cost g join ≡ length sides → Meets g (record { ask = Dijoin; body = Join (cost g join) join sides })
dijoin-meets g join sides graph suits feasible dual equal = record {
  shaped = record {
    k = tt;
    suits = suits;
    belongs = tt;
    in_range = (feasible.picks.in_range, All-weaker (IsClosed g) (λ X. length X ≡ length g.names) (λ X c. c.proper.long) sides dual.members);
    numbers_fit = omega (arith, cost-le g join graph feasible.picks.distinct, small);
  };
  object = feasible;
  dual = dual;
  value = (refl, equal);
}
