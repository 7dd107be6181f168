use Rattle.std.proofs.Common.{◌≡◌, length, ap, subst, ◌∙◌}
use Rattle.graph_text.specs.Before.{cost_of}
use Rattle.graph_text.proofs.DraftLemmas.{edges-cost}
use Rattle.graph_text.proofs.draft.Draft.know_edges.Goals as goal

pub returns : goal.returns
returns c undirected =
    let inside = c.self.inside in
    subst (λ v. cost_of v.ends ≡ length v.ends) c.self.view_is (edges-cost inside.kind _ inside.numbers.items inside.lines.items c.self.invariant.parts (ap (λ v. v.kind) c.self.view_is ∙ undirected))
