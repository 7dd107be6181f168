-- Feasible packings, by what the tests say of their rows.
use Rattle.std.specs.Prelude.{slice_index_or}
use Rattle.std.proofs.Common.{ℕ, ◌≡◌, ◌-◌, ◌<◌, ◌≤◌, ◌↔◌, cond, List, length, All, refl, sym, ap, ◌∙◌, inl, inr, eq-eqb, arith}
use Rattle.std.proofs.lemmas.Bool.{cases_eq, ne_eqb}
use Rattle.std.proofs.lemmas.List.Elements.{All-weaker}
use Rattle.graph_core.specs.Graph.{GraphValue}
use Rattle.graph_core.specs.Picked.{picked}
use Rattle.graph_core.specs.Trees.{IsForest, IsSpanningTree, IsSpanningArborescence}
use Rattle.graph_core.specs.declared.graph.Line.{Line}
use Rattle.graph_core.specs.Walks.{AreDisjoint}
use Rattle.graph_core.proofs.Counting.{All-both}
use Rattle.problem_defs.specs.Arborescences as arborescences
use Rattle.problem_defs.specs.Trees.{IsFeasible}
use Rattle.certificate_checker.specs.Heads.{IsHeaded}
use Rattle.certificate_checker.proofs.ArborescenceLaws.{forest-entered}

-- disjoint rows of n - 1 numbers are spanning trees where they are forests
pub trees-feasible : (g : GraphValue) (rows : List (List ℕ)) → 1 ≤ length g.names → All (λ row. length row ≡ length g.names - 1) rows → AreDisjoint rows → All (IsForest (length g.names) g.lines) rows ↔ IsFeasible g rows
trees-feasible g rows some many disjoint = (
  λ forests. record {
    each = All-both (IsForest (length g.names) g.lines) (λ row. length row ≡ length g.names - 1) (IsSpanningTree (length g.names) g.lines) (λ row f e. record { forest = f; many = omega arith }) rows forests many;
    disjoint = disjoint;
  },
  λ feasible. All-weaker (IsSpanningTree (length g.names) g.lines) (IsForest (length g.names) g.lines) (λ row t. t.forest) rows feasible.each,
)

pub arborescence-headed : (n r : ℕ) (ls : List Line) (row : List ℕ) → IsSpanningArborescence n ls r row → IsHeaded n r (picked ls row)
arborescence-headed n r ls row a v l = elim (cases_eq v r) [
  | inl e ↦ rw e (a.root ∙ sym (ap (λ b. cond {A = ℕ} b 0 1) (eq-eqb r r refl)))
  | inr ne ↦ a.others v l ne ∙ sym (ap (λ b. cond {A = ℕ} b 0 1) (ne_eqb v r ne))
]

headed-arborescence : (n r : ℕ) (ls : List Line) (row : List ℕ) → r < n → length row ≡ n - 1 → IsHeaded n r (picked ls row) → IsForest n ls row → IsSpanningArborescence n ls r row
headed-arborescence n r ls row root many headed forest = record {
  picks = forest.picks;
  many = omega arith;
  root = headed r root ∙ ap (λ b. cond {A = ℕ} b 0 1) (eq-eqb r r refl);
  others = λ v l ne. headed v l ∙ ap (λ b. cond {A = ℕ} b 0 1) (ne_eqb v r ne);
  reached = (forest-entered n r (picked ls row) headed).0 forest.acyclic;
}

-- disjoint rows of n - 1 arcs with the heads of an arborescence are arborescences where they are forests
pub arborescences-feasible : (r : ℕ) (g : GraphValue) (rows : List (List ℕ)) → r < length g.names → All (λ row. length row ≡ length g.names - 1) rows → AreDisjoint rows
    → All (λ row. IsHeaded (length g.names) r (picked g.lines row)) rows → All (IsForest (length g.names) g.lines) rows ↔ arborescences.IsFeasible r g rows
arborescences-feasible r g rows root many disjoint headed =
    let n = length g.names in (
      λ forests. record {
        each = λ k d l. headed-arborescence n r g.lines (slice_index_or rows k d) root (many k d l) (headed k d l) (forests k d l);
        disjoint = disjoint;
      },
      λ feasible k d l.
          let a = feasible.each k d l in
          record { picks = a.picks; acyclic = (forest-entered n r (picked g.lines (slice_index_or rows k d)) (headed k d l)).1 a.reached },
    )
