use Rattle.std.proofs.Common.{◌≡◌, ◌++◌, ◌∷◌, [], ◌∙◌, sym, ap, subst, length}
use Rattle.graph_core.specs.Side.{complement}
use Rattle.graph_core.specs.Families.{IsPartition}
use Rattle.graph_core.proofs.FamilyLaws.{IsPartition-halves}
use Rattle.library_tests.proofs.graphs.halves.Goals as goal

pub returns : goal.returns
returns c =
    let n = length c.args.side.now in
    let first : c.push.new.self ≡ c.args.side.now ∷ [] = c.in_ok-push.ensures.ok ∙ (λ t. c.new-classes.ensures t ++ c.in_ok-copy.ensures t ∷ []) in
    let second : c.complement.new.self ≡ complement c.args.side.now = c.complement.ensures.complement ∙ ap complement c.in_ok-rest.ensures in
    let both : c.push-2.new.self ≡ c.args.side.now ∷ complement c.args.side.now ∷ [] = c.in_ok-push-2.ensures.ok ∙ (λ t. first t ++ second t ∷ []) in
    subst (IsPartition n) (sym both) (IsPartition-halves n c.args.side.now c.requires)
