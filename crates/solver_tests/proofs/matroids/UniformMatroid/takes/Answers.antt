use Rattle.std.proofs.Common.{◌≡◌, ◌<◌, ◌∙◌, false, true, length, set, ap, sym, arith}
use Rattle.std.proofs.lemmas.Bool.{ltb-true, lt-ltb}
use Rattle.std.proofs.lemmas.List.{get_or_read, set-get_or}
use Rattle.graph_core.specs.Side.{has, size}
use Rattle.matroid_union.proofs.SearchLaws.{size_mark}
use Rattle.solver_tests.proofs.matroids.UniformMatroid.takes.Goals as goal

pub returns-then-index : goal.returns-then-index
returns-then-index c =
    let X = c.args.set.now.items in
    let e = c.args.element in
    let marked : has X e ≡ true = sym (get_or_read X e c.index.result.now (rw c.requires.kept.0 c.requires.below) c.index.ensures false) ∙ c.if-index.true in
    let same : set X e true ≡ X = ap (set X e) (sym marked) ∙ set-get_or X e false in
    let size_is = ap size same in
    let few = c.requires.kept.1 in
    (λ _. omega arith, λ _. c.if-index.true)

pub returns-else-index : goal.returns-else-index
returns-else-index c =
    let X = c.args.set.now.items in
    let e = c.args.element in
    let inside : e < length X = rw c.requires.kept.0 c.requires.below in
    let fresh : has X e ≡ false = sym (get_or_read X e c.index.result.now inside c.index.ensures false) ∙ c.if-index.false in
    let more = size_mark X e inside fresh in
    let counted : c.taken.result ≡ size X = c.taken.ensures ∙ ap size c.as_slice.ensures.value in
    (λ h. let less = ltb-true c.taken.result c.args.self.now.most h in omega arith, λ h. lt-ltb c.taken.result c.args.self.now.most (omega arith))
