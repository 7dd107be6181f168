use Rattle.std.proofs.Common.{ℕ, zero, suc, ◌≡◌, ◌<◌, ◌≤◌, List, [], ◌∷◌, true, false, arith}
use Rattle.std.specs.Prelude.{Bool}
use Rattle.std.proofs.lemmas.Bool.{and_parts}
use Rattle.graph_core.specs.Side.{has, IsProper}
use Rattle.graph_core.proofs.SideLaws.{has-none}
use Rattle.graph_core.proofs.ProperLaws.{node_in, node_out}
use Rattle.solver_tests.proofs.arc_splitting.is_covered.Goals as goal

-- what holds of each proper side of two nodes
proper_sides : (P : List Bool → Type 0) → P (true ∷ false ∷ []) → P (false ∷ true ∷ []) → (X : List Bool) → IsProper 2 X → P X
proper_sides P a b [] x = absurd (omega (arith, x.long))
proper_sides P a b (p ∷ []) x = absurd (omega (arith, x.long))
proper_sides P a b (true ∷ false ∷ []) x = a
proper_sides P a b (false ∷ true ∷ []) x = b
proper_sides P a b (true ∷ true ∷ []) x = let (v, l, out) = node_out (true ∷ true ∷ []) x in absurd (all v l out)
  where
    all : (v : ℕ) → v < 2 → has (true ∷ true ∷ []) v ≡ false → ⊥
    all zero l out = cc
    all (suc zero) l out = cc
    all (suc (suc v)) l out = omega arith
proper_sides P a b (false ∷ false ∷ []) x = let (v, l, inside) = node_in (false ∷ false ∷ []) x in absurd (cc (inside, has-none 2 v))
proper_sides P a b (p ∷ q ∷ r ∷ X) x = absurd (omega (arith, x.long))

pub returns : goal.returns
returns g c = λ e.
    let (ha, hb) = and_parts _ _ e in
    proper_sides (λ X. c.args.k ≤ g.F.CutFn.cut c.args.f.now X) (c.in_ok-a.ensures ha) (c.in_ok-b.ensures hb)
