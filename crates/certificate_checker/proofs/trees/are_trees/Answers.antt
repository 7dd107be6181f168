use Rattle.std.proofs.Common.{◌≡◌, ◌-◌, ◌↔◌, subst, IsTrue, All, length}
use Rattle.std.proofs.lemmas.Result.{IfOk-weaker}
use Rattle.graph_core.specs.Trees.{IsForest}
use Rattle.problem_defs.specs.Trees.{IsFeasible}
use Rattle.certificate_checker.proofs.Feasible.{trees-feasible}
use Rattle.certificate_checker.proofs.trees.are_trees.Goals as goal

pub returns : goal.returns
returns c =
    let g = c.args.graph.now in
    let rows = c.args.rows.now in
    let many : All (λ row. length row ≡ length g.names - 1) rows =
    subst (λ n. All (λ row. length row ≡ n - 1) rows) c.node_count.ensures (c.have_length.ensures.0 c.if-not-have_length.false) in
    let both = trees-feasible g rows c.known.ensures.makes.some many (c.in_ok-are_disjoint.ensures.0 c.if-not-branch.false) in
    IfOk-weaker c.are_forests.result (λ forests. IsTrue forests ↔ All (IsForest (length g.names) g.lines) rows) (λ trees. IsTrue trees ↔ IsFeasible g rows)
    (λ _ told. (λ is. both.0 (told.0 is), λ feasible. told.1 (both.1 feasible))) c.are_forests.ensures
