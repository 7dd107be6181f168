-- Pairs of cut functions as ρ and δ.
use Rattle.std.specs.Prelude.{ℕ, ◌≡◌, ◌+◌, ◌≤◌, Bool, not, ◌&&◌, List, length, All}
use Rattle.std.proofs.Common.{sym, ◌∙◌, arith}
use Rattle.graph_core.specs.Side.{has, minus, complement}
use Rattle.graph_core.specs.Graph.{Fits}
use Rattle.graph_core.specs.Lines.{entering, leaving}
use Rattle.graph_core.proofs.Counting.{weight}
use Rattle.graph_core.proofs.ConnectedLaws.{entering-complement}
use Rattle.graph_core.proofs.CutLaws.{entering_meets, leaving_meets}
use Rattle.graph_core.proofs.LineLaws.{lines_complement, two_sums-le}
use Rattle.graph_core.proofs.SideLaws.{has-minus}
use Rattle.cut_fn.specs.Submodular.{IsSubmodular}
use Rattle.graph_core.specs.declared.graph.Line.{Line}

-- two submodular functions, each of them the other one at the complement, that together are no more at the two differences
pub record AreOpposite (n : ℕ) (f g : List Bool → ℕ) : Type 0 where
  pub turned : (X : List Bool) → length X ≡ n → g (complement X) ≡ f X
  pub back : (X : List Bool) → length X ≡ n → f (complement X) ≡ g X
  pub first : IsSubmodular n f
  pub second : IsSubmodular n g
  pub parts : (X Y : List Bool) → length X ≡ n → length Y ≡ n → f (minus X Y) + g (minus Y X) ≤ f X + g Y

pub exchanged : {n : ℕ} {f g : List Bool → ℕ} → AreOpposite n f g → AreOpposite n g f
exchanged p = record {
  turned = p.back;
  back = p.turned;
  first = p.second;
  second = p.first;
  parts = λ X Y x y. omega (arith, p.parts Y X y x);
}

in_parts : (a b c d : Bool) → weight ((b && not d) && not (a && not c)) + weight ((c && not a) && not (d && not b)) ≤ weight (b && not a) + weight (c && not d)
in_parts a b c d = grind arith

-- ρ and δ
pub lines_opposite : {n : ℕ} (ls : List Line) → All (Fits n) ls → AreOpposite n (λ X. entering X ls) (λ X. leaving X ls)
lines_opposite {n} ls fits = record {
  turned = λ X x. lines_complement (λ a b. weight (a && not b)) (λ a b. weight (b && not a)) (λ a b. grind arith) n ls fits X x;
  back = λ X x. entering-complement n X x ls fits;
  first = λ X Y x y. entering_meets ls X Y x y;
  second = λ X Y x y. leaving_meets ls X Y x y;
  parts = λ X Y x y.
      let e : length X ≡ length Y = x ∙ sym y in
      two_sums-le (λ l. weight (has (minus X Y) l.head && not (has (minus X Y) l.tail))) (λ l. weight (has (minus Y X) l.tail && not (has (minus Y X) l.head)))
      (λ l. weight (has X l.head && not (has X l.tail))) (λ l. weight (has Y l.tail && not (has Y l.head)))
      (λ l. rw (has-minus X Y l.tail e, has-minus X Y l.head e, has-minus Y X l.tail (sym e), has-minus Y X l.head (sym e))
      (in_parts (has X l.tail) (has X l.head) (has Y l.tail) (has Y l.head)))
      ls;
}
