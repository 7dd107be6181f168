use Rattle.std.proofs.Common.{◌+◌, ◌≤◌, List, [], ◌∷◌, true, false, arith}
use Rattle.std.specs.Prelude.{Bool, slice_index}
use Rattle.std.proofs.lemmas.Bool.{and_parts}
use Rattle.graph_core.specs.Side.{sum_over, IsNonempty}
use Rattle.graph_core.specs.Lines.{entering}
use Rattle.graph_core.proofs.FamilyLaws.{size-nonempty}
use Rattle.solver_tests.proofs.branchings.can_be_packed.Goals as goal

-- what holds of each nonempty side of three nodes
all_sides : (P : List Bool → Type 0)
    → P (true ∷ false ∷ false ∷ []) → P (false ∷ true ∷ false ∷ []) → P (false ∷ false ∷ true ∷ []) → P (true ∷ true ∷ false ∷ []) → P (true ∷ false ∷ true ∷ [])
    → P (false ∷ true ∷ true ∷ []) → P (true ∷ true ∷ true ∷ []) → (X : List Bool) → IsNonempty 3 X → P X
all_sides P a b c ab ac bc abc [] x = absurd (omega (arith, x.long))
all_sides P a b c ab ac bc abc (p ∷ []) x = absurd (omega (arith, x.long))
all_sides P a b c ab ac bc abc (p ∷ q ∷ []) x = absurd (omega (arith, x.long))
all_sides P a b c ab ac bc abc (true ∷ false ∷ false ∷ []) x = a
all_sides P a b c ab ac bc abc (false ∷ true ∷ false ∷ []) x = b
all_sides P a b c ab ac bc abc (false ∷ false ∷ true ∷ []) x = c
all_sides P a b c ab ac bc abc (true ∷ true ∷ false ∷ []) x = ab
all_sides P a b c ab ac bc abc (true ∷ false ∷ true ∷ []) x = ac
all_sides P a b c ab ac bc abc (false ∷ true ∷ true ∷ []) x = bc
all_sides P a b c ab ac bc abc (true ∷ true ∷ true ∷ []) x = abc
all_sides P a b c ab ac bc abc (false ∷ false ∷ false ∷ []) x = let none : 1 ≤ 0 = size-nonempty (false ∷ false ∷ false ∷ []) x.some_in in absurd (omega arith)
all_sides P a b c ab ac bc abc (p ∷ q ∷ r ∷ s ∷ X) x = absurd (omega (arith, x.long))

pub returns : goal.returns
returns c = λ e.
    let P : List Bool → Type 0 = λ X. c.args.k ≤ entering X c.args.graph.now.lines + sum_over X (slice_index c.args.roots.now) in
    let (e6, h7) = and_parts _ _ e in
    let (e5, h6) = and_parts _ _ e6 in
    let (e4, h5) = and_parts _ _ e5 in
    let (e3, h4) = and_parts _ _ e4 in
    let (e2, h3) = and_parts _ _ e3 in
    let (h1, h2) = and_parts _ _ e2 in
    record {
      long = c.requires.long;
      entered = all_sides P
          (c.are_entered-a.ensures h1)
          (c.are_entered-b.ensures h2)
          (c.are_entered-c.ensures h3)
          (c.are_entered-ab.ensures h4)
          (c.are_entered-ac.ensures h5)
          (c.are_entered-bc.ensures h6)
          (c.are_entered-abc.ensures h7);
    }
