use Rattle.std.proofs.Common.{◌≡◌, [], Some, map, slice_get, sym, ap, subst, ◌∙◌}
use Rattle.std.specs.Option.{option_map, option_copied}
use Rattle.std.proofs.lemmas.Option.{get_or_from_slice_get, slice_get_within, slice_get-map}
use Rattle.graph_core.specs.Name.{IsName}
use Rattle.graph_text.proofs.draft.Draft.name.Goals as goal

pub returns-clause-named : goal.returns-clause-named
returns-clause-named c =
    let keys = c.self.inside.names.keys in
    let key = sym c.get_index.ensures.key ∙ ap option_copied c.unwrap.ensures in
    let name : slice_get (map (λ k. k.items) keys) c.args.at ≡ Some c.as_slice.result.now = slice_get-map (λ k. k.items) keys c.args.at ∙ ap (option_map (λ k. k.items)) key ∙ ap Some (sym c.as_slice.ensures.value) in
    subst IsName (get_or_from_slice_get (map (λ k. k.items) keys) c.args.at _ [] name) (c.self.invariant.parts.named c.args.at [] (slice_get_within (map (λ k. k.items) keys) c.args.at _ name))
