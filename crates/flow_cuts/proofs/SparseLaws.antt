-- What the flows between node 0 and the other nodes say of proper sides.
use Rattle.std.specs.Prelude.{ℕ, ◌≡◌, ◌≢◌, ◌<◌, ◌≤◌, Bool, true, false, List}
use Rattle.std.proofs.Common.{sym, ap, ◌∙◌, arith, inl, inr}
use Rattle.std.proofs.lemmas.Bool.{false≢true, cases_Bool}
use Rattle.std.proofs.lemmas.List.{get_or_default}
use Rattle.graph_core.specs.Side.{has, IsOnly}
use Rattle.graph_core.proofs.ProperLaws.{is_proper}
use Rattle.cut_fn.specs.Covered.{IsCovered}
use Rattle.flow_cuts.specs.Cuts.{IsLeastCapacity, IsSmallestCut}
use Rattle.flow_cuts.specs.Network.{capacity}
use Rattle.flow_cuts.specs.Sparse.{AreJoined, IsSparseBetween}
use Rattle.flow_cuts.specs.declared.network.Cap.{Cap}

module _ {n u v : ℕ} {I O : List Bool} (arcs : List Cap) (inside : IsOnly I u) (outside : IsOnly O v) where
  pub joined-by : (least answer : ℕ) → IsLeastCapacity n I O arcs least answer → least ≤ answer → AreJoined n arcs u v least
  joined-by least answer ran enough X long holds misses =
      let most = ran.least X (record { long = long; holds = λ w h. ap (has X) (inside.only w h) ∙ holds; misses = λ w h. ap (has X) (outside.only w h) ∙ misses }) in
      omega arith

  pub sparse_between-by : (least answer : ℕ) (X : List Bool) → v < n → IsSmallestCut n I O arcs answer X → answer < least → IsSparseBetween n arcs u v least X
  sparse_between-by least answer X below smallest few =
      let apart = smallest.cut.separates in
      let holds = apart.holds u inside.here in
      let misses = apart.misses v outside.here in
      record {
        sparse = record {
          proper = is_proper X u v apart.long holds below misses;
          few = omega (arith, smallest.cut.value_is);
        };
        holds = holds;
        misses = misses;
      }

-- where node 0 is joined to each other one both ways, so is each proper side to the rest
pub connected-from : (n least : ℕ) (arcs : List Cap) → ((w : ℕ) → 1 ≤ w → w < n → AreJoined n arcs 0 w least × AreJoined n arcs w 0 least) → IsCovered n least (λ X. capacity X arcs)
connected-from n least arcs each X p = elim (cases_Bool (has X 0)) [
  | inl here ↦
      let (w, lw, out) = p.some_out in
      (each w (positive w (λ e. false≢true (sym out ∙ ap (has X) e ∙ here))) (omega (arith, p.long))).0 X p.long here out
  | inr here ↦
      let (w, lw, in') = p.some_in in
      let within : has X w ≡ true = get_or_default X w false true lw ∙ in' in
      (each w (positive w (λ e. false≢true (sym here ∙ ap (has X) (sym e) ∙ within))) (omega (arith, p.long))).1 X p.long within here
]
  where
    positive : (w : ℕ) → w ≢ 0 → 1 ≤ w
    positive w ne = omega arith
