-- Least cuts of a network whose cut function is submodular are closed under intersection and union.
use Rattle.std.specs.Prelude.{ℕ, ◌≡◌, Bool, ◌&&◌, ◌||◌, List, length, refl}
use Rattle.std.proofs.Common.{sym, ◌∙◌, arith}
use Rattle.std.proofs.lemmas.Simd.{length-zip2}
use Rattle.graph_core.specs.Side.{meet, join}
use Rattle.graph_core.proofs.SideLaws.{has-zip2}
use Rattle.cut_fn.specs.Submodular.{IsSubmodular}
use Rattle.flow_cuts.specs.declared.network.Cap.{Cap}
use Rattle.flow_cuts.specs.Network.{Separates, IsCutFunction}
use Rattle.flow_cuts.specs.Cuts.{IsMinimumCut}

module _ {n : ℕ} {inside outside : List Bool} (X Y : List Bool) (a : Separates n inside outside X) (b : Separates n inside outside Y) where
  same : length X ≡ length Y
  same = a.long ∙ sym b.long

  Separates-meet : Separates n inside outside (meet X Y)
  Separates-meet = record {
    long = length-zip2 ◌&&◌ X Y same ∙ a.long;
    holds = λ v h. has-zip2 ◌&&◌ refl X Y v same ∙ (λ t. a.holds v h t && b.holds v h t);
    misses = λ v h. has-zip2 ◌&&◌ refl X Y v same ∙ (λ t. a.misses v h t && b.misses v h t);
  }

  Separates-join : Separates n inside outside (join X Y)
  Separates-join = record {
    long = length-zip2 ◌||◌ X Y same ∙ a.long;
    holds = λ v h. has-zip2 ◌||◌ refl X Y v same ∙ (λ t. a.holds v h t || b.holds v h t);
    misses = λ v h. has-zip2 ◌||◌ refl X Y v same ∙ (λ t. a.misses v h t || b.misses v h t);
  }

-- neither has less than the least, and together they have no more than twice that
pub least_cuts-closed : (n : ℕ) (f : List Bool → ℕ) → IsSubmodular n f → (arcs : List Cap) (inside outside X Y : List Bool) (value : ℕ) → IsCutFunction arcs f →
    IsMinimumCut n inside outside arcs value X → IsMinimumCut n inside outside arcs value Y → IsMinimumCut n inside outside arcs value (meet X Y) × IsMinimumCut n inside outside arcs value (join X Y)
least_cuts-closed n f law arcs inside outside X Y value is a b =
    let meets = Separates-meet X Y a.separates b.separates in
    let joins = Separates-join X Y a.separates b.separates in
    let both = law X Y a.separates.long b.separates.long in
    let some = a.least (meet X Y) meets in
    let more = a.least (join X Y) joins in (
      record { separates = meets; value_is = omega (arith, both, some, more, is X, is Y, is (meet X Y), is (join X Y), a.value_is, b.value_is); least = a.least },
      record { separates = joins; value_is = omega (arith, both, some, more, is X, is Y, is (meet X Y), is (join X Y), a.value_is, b.value_is); least = a.least },
    )
