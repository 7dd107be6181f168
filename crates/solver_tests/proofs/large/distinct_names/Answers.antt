use Rattle.std.proofs.Common.{arith}
use Rattle.std.specs.Prelude.{◌≢◌, All}
use Rattle.std.proofs.lemmas.Grind.{common_steps}
use Rattle.std.proofs.lemmas.List.Elements.{All-get_or}
use Rattle.std.proofs.lemmas.List.Quantifiers.{all_pairs_push}
use Rattle.solver_tests.proofs.large.distinct_names.Goals as goal

pub loop-v-preserved : goal.loop-v-preserved
loop-v-preserved c =
    let name = c.in_ok-name.name in
    let fresh : All (λ known. known ≢ name) c.loop-v.names.items = rw c.deref.ensures.value at (c.is_new.ensures c.if-not-is_new.false) in
    let distinct = all_pairs_push (λ a b. a ≢ b) c.loop-v.names.items name c.loop-v.invariant.distinct (λ k d within. All-get_or (λ known. known ≢ name) c.loop-v.names.items k d within fresh) in
    record {
      count = grind (arith, common_steps);
      distinct = rw c.in_ok-push.ensures.items distinct;
    }
