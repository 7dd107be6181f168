-- What it means that an ask has no misfit: the kind of graph, and how many nodes.
use Rattle.std.proofs.Common.{ℕ, ◌≡◌, ◌≤◌, Bool, None, refl, arith, ◌==◌, not, true, false, cond, Option, Some}
use Rattle.graph_core.specs.declared.graph.Kind.TheVariants.{Undirected, Directed}
use Rattle.graph_core.specs.declared.graph.Kind.{Kind}
use Rattle.problem_defs.specs.Ask.{is_directed}
use Rattle.problem_defs.specs.declared.ask.Misfit.TheVariants.{Small, Kind as WrongKind}
use Rattle.problem_defs.specs.declared.ask.Misfit.{Misfit}

-- where a choice of two answers is None, and one of them isn't, it is the other
pub left_out : (b : Bool) (x : Misfit) (rest : Option Misfit) → cond b (Some x) rest ≡ None → (b ≡ false) × (rest ≡ None)
left_out true x rest e = absurd cc
left_out false x rest e = (refl, e)

pub undirected-of : (kind : Kind) (rest : Option Misfit) → cond (is_directed kind) (Some WrongKind) rest ≡ None → kind ≡ Undirected
undirected-of Undirected rest none = refl
undirected-of Directed rest none = absurd cc

pub directed-of : (kind : Kind) (rest : Option Misfit) → cond (not (is_directed kind)) (Some WrongKind) rest ≡ None → kind ≡ Directed
directed-of Undirected rest none = absurd cc
directed-of Directed rest none = refl

-- one node is too few, and there is one
pub many-of : (n : ℕ) (rest : Option Misfit) → 1 ≤ n → cond (n == 1) (Some Small) rest ≡ None → 2 ≤ n
many-of n rest some none = let (other, end) = left_out (n == 1) Small rest none in grind arith
