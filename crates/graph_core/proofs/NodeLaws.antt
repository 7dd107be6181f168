-- Laws of the weights of sides: sums over their nodes.
use Rattle.std.specs.Prelude.{◌≡◌, ◌+◌, Bool, true, false, cond, List, [], ◌∷◌, refl}
use Rattle.std.proofs.Common.{arith}
use Rattle.graph_core.specs.Side.{sum_over}

pub nodes_none : (X : List Bool) → sum_over X (λ _. 0) ≡ 0
nodes_none [] = refl
nodes_none (x ∷ X) = let rest = nodes_none X in elim x as (λ b. cond b 0 0 + sum_over X (λ _. 0) ≡ 0) [ true ↦ omega arith | false ↦ omega arith ]
