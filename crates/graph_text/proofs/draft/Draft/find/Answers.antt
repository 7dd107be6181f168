use Rattle.std.proofs.Common.{sym, ◌∙◌}
use Rattle.std.specs.Str.{bytes_eq}
use Rattle.graph_text.proofs.NamesLemmas.{position-map, list_any-map}
use Rattle.graph_text.proofs.draft.Draft.find.Goals as goal

pub returns-in-Some-clause-number : goal.returns-in-Some-clause-number
returns-in-Some-clause-number c = rw (← c.self.view_is) (c.in-Some.ensures.index ∙ sym (position-map (λ name. name.items) (bytes_eq c.args.name.now) c.self.inside.names.keys))

pub returns-in-Some-clause-found : goal.returns-in-Some-clause-found
returns-in-Some-clause-found c = rw (← c.self.view_is) (c.in-Some.ensures.found ∙ sym (list_any-map (λ name. name.items) (bytes_eq c.args.name.now) c.self.inside.names.keys))

pub returns-in-None-clause-number : goal.returns-in-None-clause-number
returns-in-None-clause-number c = rw (← c.self.view_is) (c.in-None.ensures.index ∙ sym (position-map (λ name. name.items) (bytes_eq c.args.name.now) c.self.inside.names.keys))

pub returns-in-None-clause-found : goal.returns-in-None-clause-found
returns-in-None-clause-found c = rw (← c.self.view_is) (c.in-None.ensures.found ∙ sym (list_any-map (λ name. name.items) (bytes_eq c.args.name.now) c.self.inside.names.keys))
