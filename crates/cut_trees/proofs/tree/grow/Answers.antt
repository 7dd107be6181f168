use Rattle.std.proofs.Common.{◌≡◌, ◌+◌, true, [], ◌∷◌, ◌++◌, length, take, drop, sym, ap, ◌∙◌, arith, subst, rules}
use Rattle.std.specs.Prelude.{slice_index}
use Rattle.std.specs.Result.{is_ok}
use Rattle.std.proofs.lemmas.List.{with_items_is}
use Rattle.cut_trees.specs.declared.branch.Branch.{Branch}
use Rattle.cut_trees.specs.Branch.{at}
use Rattle.cut_trees.specs.Grown.{IsGrown}
use Rattle.cut_trees.proofs.Branches.{at-old, at-new, length-pushed}
use Rattle.cut_trees.proofs.tree.grow.Goals as goal

pub returns-clause-grown : goal.returns-clause-grown
returns-clause-grown c =
    let old = c.args.branches.now in
    let bs = c.turn_to-weight.new.branches in
    let ls = c.args.cuts.now.graph.now.lines in
    let reps = slice_index c.turn_to-weight.new.reps in
    let x : Branch = record { first = c.args.s; second = slice_index c.args.reps.now c.args.s; weight = c.turn_to-weight.result; side = c.turn_to-weight.new.side } in
    let ok : is_ok c.push.result ≡ true = search rules in
    let long : length bs ≡ length old.items = omega (arith, c.turn_to-weight.auto.branches, ap length c.deref_mut.ensures.value) in
    let whole : take old.len (bs ++ drop (length bs) old.items) ≡ bs = with_items_is old bs (long ∙ sym old.ok.0) in
    let made : c.push.new.self.items ≡ bs ++ x ∷ [] = rw (ok, whole) at c.push.ensures.items in
    let m : length c.deref_mut.result.now ≡ length bs = ap length c.deref_mut.ensures.value ∙ sym long in
    let grown : IsGrown (length c.args.reps.now) (c.args.s + 1) ls (length bs + 1) (at (bs ++ x ∷ [])) reps =
    subst (λ k. IsGrown (length c.args.reps.now) (c.args.s + 1) ls (k + 1) (at (bs ++ x ∷ [])) reps) m
    (c.turn_to-weight.ensures.grown (at (bs ++ x ∷ [])) (λ j l. at-old bs x j (omega arith)) (ap (at (bs ++ x ∷ [])) m ∙ at-new bs x)) in
    rw (made, length-pushed bs x) grown
