use Rattle.std.proofs.Common.{◌≡◌, ◌-◌, ◌<◌, ◌*◌, length, sym, ◌∙◌, subst, arith}
use Rattle.std.specs.Prelude.{All}
use Rattle.std.proofs.Math.Nat.{div-lt_iff_lt-mul}
use Rattle.std.proofs.lemmas.Bool.{both_ways}
use Rattle.graph_core.specs.Lines.{between}
use Rattle.problem_defs.specs.Trees.{bound}
use Rattle.tree_packing.proofs.Finer.{spanning, finer}
use Rattle.tree_packing.proofs.packing.pack_trees.Goals as goal

pub returns-then-have_length-clause-certified : goal.returns-then-have_length-clause-certified
returns-then-have_length-clause-certified c =
    let g = c.args.graph.now in
    let found = c.in_ok-rows.field-0 in
    let all = subst (λ n. All (λ row. length row ≡ n - 1) found.rows) c.node_count.ensures (c.have_length.ensures.0 c.if-have_length.true) in
    record {
      feasible = spanning g c.known.ensures.makes.ends c.known.ensures.makes.some c.bound_of.result found.rows found.classes c.in_ok-rows.ensures all;
      dual_feasible = c.improve.invariant;
      equal = c.in_ok-rows.ensures.many ∙ c.bound_of.ensures;
    }

pub improve-smaller : goal.improve-smaller
improve-smaller c =
    let g = c.args.graph.now in
    let found = c.in_ok-rows.field-0 in
    let next = finer g c.known.ensures.makes.ends c.known.ensures.makes.some c.bound_of.result found.rows found.classes c.in_ok-rows.ensures
    (λ all. both_ways c.have_length.result c.if-have_length.false (c.have_length.ensures.1 (subst (λ n. All (λ row. length row ≡ n - 1) found.rows) (sym c.node_count.ensures) all))) in
    let two = next.0.classes in
    let less : between found.classes g.lines < bound g c.improve.dual * (length found.classes - 1) = subst (λ k. between found.classes g.lines < k * (length found.classes - 1)) c.bound_of.ensures next.1 in
    (div-lt_iff_lt-mul (omega arith)).1 less

pub improve-preserved : goal.improve-preserved
improve-preserved c =
    let g = c.args.graph.now in
    let found = c.in_ok-rows.field-0 in
    (finer g c.known.ensures.makes.ends c.known.ensures.makes.some c.bound_of.result found.rows found.classes c.in_ok-rows.ensures
    (λ all. both_ways c.have_length.result c.if-have_length.false (c.have_length.ensures.1 (subst (λ n. All (λ row. length row ≡ n - 1) found.rows) (sym c.node_count.ensures) all)))).0
