use Rattle.std.proofs.Common.{◌≡◌, false, sym, ◌∙◌}
use Rattle.std.specs.Str.{bytes_eq}
use Rattle.std.specs.List.{list_any}
use Rattle.graph_text.proofs.NamesLemmas.{list_any-map, map-inserted}
use Rattle.graph_text.proofs.draft.push_both.Goals as goal

pub returns-clause-names : goal.returns-clause-names
returns-clause-names c =
    let old = c.args.names.now.keys in
    let fresh : list_any (λ k. bytes_eq c.args.name.items k.items) old ≡ false = sym (list_any-map (λ k. k.items) (bytes_eq c.args.name.items) old) ∙ c.requires.is_new in
    map-inserted (λ k. k.items) _ old c.insert.new.self.keys c.args.name c.in-Ok-insert.ensures.keys fresh
