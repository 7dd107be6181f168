-- Laws of the values of sides in a covered star.
use Rattle.std.specs.Prelude.{ℕ, ◌≡◌, ◌+◌, ◌*◌, ◌≤◌, Bool, List, All}
use Rattle.std.proofs.Common.{sym, ap, arith, subst}
use Rattle.graph_core.specs.Side.{sum_over, complement, IsProper}
use Rattle.graph_core.specs.Graph.{Fits}
use Rattle.graph_core.specs.declared.graph.Line.{Line}
use Rattle.graph_core.proofs.CutLaws.{degree-complement}
use Rattle.graph_core.proofs.ProperLaws.{proper-complement}
use Rattle.cut_fn.specs.Covered.{IsCovered}
use Rattle.cut_fn.specs.StarLaws.{star_three}
use Rattle.split_undirected.specs.CoveredStar.{total, IsCoveredStar}
use Rattle.graph_core.proofs.WeightLaws.{nodes_complement}
use Rattle.split_undirected.specs.Rows.{star_value}

pub is_covered_star : {n k : ℕ} (ls : List Line) (w : ℕ → ℕ) → All (Fits n) ls → IsCovered n k (star_value ls w) → IsCoveredStar n k (star_value ls w) w
is_covered_star {n} {k} ls w fit covered = record {
  covered = covered;
  turned = λ X long. omega (arith, degree-complement ls fit X long, nodes_complement w X, ap (λ m. total m w) long);
  three = star_three n w ls;
}

-- a function that is the same at each side
pub same_covered_star : {n k : ℕ} {w : ℕ → ℕ} (f g : List Bool → ℕ) → ((X : List Bool) → f X ≡ g X) → IsCoveredStar n k g w → IsCoveredStar n k f w
same_covered_star {n} {k} {w} f g same star = subst (λ h. IsCoveredStar n k h w) (λ i X. sym (same X) i) star

-- a proper side has half of the counts at most, but for what its value has above k
pub half : {n k : ℕ} {f : List Bool → ℕ} {w : ℕ → ℕ} → IsCoveredStar n k f w → (X : List Bool) (s : ℕ) → IsProper n X → f X ≤ k + s → 2 * sum_over X w ≤ total n w + s
half star X s proper small = omega (arith, star.turned X proper.long, star.covered (complement X) (proper-complement X proper))
