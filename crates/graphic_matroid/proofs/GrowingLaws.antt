-- A forest that grows line by line.
use Rattle.std.proofs.Common.{ℕ, zero, suc, ◌≡◌, ◌+◌, ◌<◌, ◌≤◌, Bool, true, false, List, [], ◌∷◌, length, get_or, set, replicate, sym, refl, ap, ◌∙◌, subst, arith}
use Rattle.std.proofs.lemmas.List.{length-set, length-replicate}
use Rattle.std.proofs.lemmas.List.Sums.{count_by-le-length}
use Rattle.graph_core.specs.Side.{has}
use Rattle.graph_core.specs.Trees.{IsAcyclic}
use Rattle.graph_core.specs.declared.graph.Line.{Line}
use Rattle.graph_core.proofs.PutLaws.{size-put}
use Rattle.graphic_matroid.specs.Chosen.{chosen}
use Rattle.graph_core.specs.Labels.{Adds}
use Rattle.graphic_matroid.specs.Roots.{AreRoots, AreClasses}
use Rattle.graphic_matroid.specs.Growing.{IsGrowingForest}
use Rattle.graphic_matroid.specs.ChosenLaws.{chosen-set}
use Rattle.graph_core.proofs.LabelLaws.{forest_none}
use Rattle.graphic_matroid.proofs.RootLaws.{classes_none, roots_none}

chosen-replicate : (k : ℕ) (ls : List Line) → chosen (replicate k false) ls ≡ []
chosen-replicate zero ls = refl
chosen-replicate (suc k) [] = refl
chosen-replicate (suc k) (l ∷ ls) = chosen-replicate k ls

-- no line, and each node alone
pub forest_started : (n : ℕ) (ls : List Line) (marks : List Bool) (parents ranks : List ℕ) → marks ≡ replicate (length ls) false → length parents ≡ n → length ranks ≡ n → ((v : ℕ) → v < n → get_or parents v 0 ≡ v) → ((v : ℕ) → v < n → get_or ranks v 0 ≡ 0) → IsGrowingForest n ls marks parents ranks
forest_started n ls marks parents ranks none lp lr alone zeros =
    let no_lines : chosen marks ls ≡ [] = ap (λ A. chosen A ls) none ∙ chosen-replicate (length ls) ls in
    record {
      long = ap length none ∙ length-replicate (length ls) false;
      forest = subst (IsAcyclic n) (sym no_lines) (forest_none n);
      roots = roots_none n parents ranks lp lr alone;
      classes = subst (AreClasses n parents) (sym no_lines) (classes_none n parents alone);
      low = λ v l. let z = zeros v l in omega arith;
    }

module _ (n : ℕ) (ls : List Line) (marks : List Bool) (parents ranks : List ℕ) (w : IsGrowingForest n ls marks parents ranks) where
  -- there are no more marks than lines
  pub rank_most : (v : ℕ) → v < n → get_or ranks v 0 ≤ length ls
  rank_most v l = omega (arith, w.low v l, w.long, count_by-le-length (λ b. b) marks)

  module _ (e : ℕ) (below : e < length ls) (out : has marks e ≡ false) where
    -- the marked lines, with one more
    pub chosen_adds : (d : Line) → Adds (chosen marks ls) (get_or ls e d) (chosen (set marks e true) ls)
    chosen_adds d = record { counts = λ p. chosen-set p marks ls e d (rw w.long below) below out }

    pub forest_grown : (parents' ranks' : List ℕ) → AreRoots n parents' ranks' → AreClasses n parents' (chosen (set marks e true) ls) → ((v : ℕ) → v < n → get_or ranks' v 0 ≤ get_or ranks v 0 + 1) → IsAcyclic n (chosen (set marks e true) ls) → IsGrowingForest n ls (set marks e true) parents' ranks'
    forest_grown parents' ranks' roots classes up forest = record {
      long = length-set marks e true ∙ w.long;
      forest = forest;
      roots = roots;
      classes = classes;
      low = λ v l. omega (arith, size-put marks e (rw w.long below) out, w.low v l, up v l);
    }
