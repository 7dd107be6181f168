use Rattle.std.proofs.Common.{[], ◌∷◌, ◌++◌, take, sym, ap, ◌∙◌}
use Rattle.graph_text.proofs.ListLemmas.{take_next}
use Rattle.graph_text.proofs.draft.Draft.to_names.Goals as goal

pub loop-at-preserved : goal.loop-at-preserved
loop-at-preserved c =
    let all = c.args.self.now.names in
    let at = c.loop-at.at in
    c.in-Ok.ensures.items ∙ ap (λ l. l ++ c.in_ok-name.name ∷ []) c.loop-at.invariant ∙ ap (λ x. take at all ++ x ∷ []) c.in_ok-name.ensures ∙ sym (take_next all at c.name.result.now c.name.ensures.name)
