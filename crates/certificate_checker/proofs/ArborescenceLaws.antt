-- Where each node but the root is the head of one arc, each side without the root is entered exactly where the arcs are a forest.
use Rattle.std.specs.Prelude.{ℕ, ◌≡◌, ◌+◌, ◌≤◌, ◌==◌, ◌↔◌, Bool, false, cond, List, length}
use Rattle.std.proofs.Common.{sym, ap, ◌∙◌, arith, inl, inr, eq-eqb}
use Rattle.std.proofs.lemmas.Bool.{cases_Bool, cases_eq, ne_eqb}
use Rattle.graph_core.specs.Side.{has, size, sum_over, IsNonempty}
use Rattle.graph_core.specs.Lines.{induced, entering}
use Rattle.graph_core.specs.Trees.{in_degree, IsAcyclic}
use Rattle.graph_core.specs.declared.graph.Line.{Line}
use Rattle.graph_core.proofs.Counting.{weight}
use Rattle.certificate_checker.specs.Heads.{IsHeaded}
use Rattle.graph_core.proofs.HeadLaws.{nodes_add, nodes_ones, one_node, heads_in, heads_split}
use Rattle.graph_core.proofs.SideLaws.{has-below}

wanted-once : (r v d : ℕ) → d ≡ cond (v == r) 0 1 → d + weight (r == v) ≡ 1
wanted-once r v d h = elim (cases_eq v r) [
  | inl e ↦ (let here : d ≡ 0 = h ∙ ap (λ b. cond {A = ℕ} b 0 1) (eq-eqb v r e) in let one : weight (r == v) ≡ 1 = ap weight (eq-eqb r v (sym e)) in omega arith)
  | inr ne ↦ (let here : d ≡ 1 = h ∙ ap (λ b. cond {A = ℕ} b 0 1) (ne_eqb v r ne) in let none : weight (r == v) ≡ 0 = ap weight (ne_eqb r v (λ e. ne (sym e))) in omega arith)
]

module _ (n r : ℕ) (ls : List Line) (headed : IsHeaded n r ls) where
  -- the arcs inside a side and those that enter it are as many as its nodes, but for the root
  side-count : (X : List Bool) → length X ≡ n → induced X ls + entering X ls + weight (has X r) ≡ size X
  side-count X e =
      let each : sum_over X (λ v. in_degree v ls + weight (r == v)) ≡ size X = nodes_ones (λ v. in_degree v ls + weight (r == v)) X (λ v h. wanted-once r v (in_degree v ls) (headed v (omega (arith, has-below X v h)))) in
      omega (arith, heads_split X ls, heads_in X ls, nodes_add (λ v. in_degree v ls) (λ v. weight (r == v)) X, one_node r X)

  pub forest-entered : IsAcyclic n ls ↔ ((X : List Bool) → IsNonempty n X → has X r ≡ false → 1 ≤ entering X ls)
  forest-entered = (
    λ acyclic X some out. let few = acyclic X some in omega (arith, side-count X some.long, ap weight out),
    λ entered X some. elim (cases_Bool (has X r)) [
      | inl root_in ↦ omega (arith, side-count X some.long, ap weight root_in)
      | inr root_out ↦ (let enters_it = entered X some root_out in omega (arith, side-count X some.long, ap weight root_out))
    ],
  )
