use Rattle.std.proofs.Common.{◌≡◌, ◌<◌, ◌≤◌, ◌+◌, [], ◌∷◌, ◌++◌, Some, map, length, position, get_or, sym, ap, subst, ◌∙◌, arith, rules}
use Rattle.std.specs.Str.{bytes_eq}
use Rattle.std.specs.List.{sum_by}
use Rattle.std.proofs.lemmas.List.{map-append, length-map}
use Rattle.graph_core.specs.declared.graph.Line.{Line}
use Rattle.graph_core.proofs.FamilyLaws.{sum_by-map}
use Rattle.graph_text.specs.Before.{Ends, cost_of}
use Rattle.graph_text.specs.DraftView.{AreParts, MayCost}
use Rattle.graph_text.specs.Text.{ends_in}
use Rattle.graph_text.proofs.DraftLemmas.{AreParts-line, Fits-found, sum_by-push}
use Rattle.graph_text.proofs.NamesLemmas.{name_at}
use Rattle.graph_text.proofs.draft.Draft.push_line.Goals as goal

pub invariant_of-self-2 : goal.invariant_of-self-2
invariant_of-self-2 c =
    let inside = c.self.inside in
    let names = map (λ k. k.items) inside.names.keys in
    let lines = inside.lines.items in
    let cost = c.args.cost in
    let line : Line = record { tail = c.unwrap-tail.result; head = c.unwrap-head.result; fixed = c.args.fixed; cost = cost } in
    let was = c.self.view_is in
    let tail : position (bytes_eq c.args.tail.now) names ≡ Some line.tail = ap (λ v. position (bytes_eq c.args.tail.now) v.names) was ∙ sym c.find.ensures.number ∙ c.unwrap-tail.ensures in
    let head : position (bytes_eq c.args.head.now) names ≡ Some line.head = ap (λ v. position (bytes_eq c.args.head.now) v.names) was ∙ sym c.find-2.ensures.number ∙ c.unwrap-head.ensures in
    let room : length lines < 2048 = omega (arith, c.requires.room, ap (λ v. length v.ends) was, length-map lines (ends_in names)) in
    let costs : sum_by (λ l. l.cost) lines ≡ cost_of c.args.self.now.ends = sym (sum_by-map (λ ends. ends.cost) (ends_in names) lines) ∙ ap (λ v. cost_of v.ends) was in
    let total : sum_by (λ l. l.cost) lines + cost ≤ 4000 = omega (arith, costs, c.requires.total) in
    let priced : MayCost inside.kind c.args.fixed cost = subst (λ k. MayCost k c.args.fixed cost) (sym (ap (λ v. v.kind) was)) c.requires.priced in
    let grown = AreParts-line inside.kind names inside.numbers.items lines line c.self.invariant.parts room (Fits-found names c.args.tail.now c.args.head.now line tail head c.requires.apart) priced total in
    let wide : c.from.result ≡ cost = search rules in
    record {
      parts = subst (λ ls. AreParts inside.kind names inside.numbers.items ls) (sym c.in-Ok.ensures.items) grown;
      number_sum = c.self.invariant.number_sum;
      cost_sum = (λ i. c.self.invariant.cost_sum i + wide i) ∙ sym (sum_by-push (λ l. l.cost) lines line) ∙ ap (sum_by (λ l. l.cost)) (sym c.in-Ok.ensures.items);
    }

pub returns-clause-ok : goal.returns-clause-ok
returns-clause-ok c =
    let names = map (λ k. k.items) c.self.inside.names.keys in
    let lines = c.self.inside.lines.items in
    let was = c.self.view_is in
    let same = ap (λ v. v.names) was in
    let tail : get_or names c.unwrap-tail.result [] ≡ c.args.tail.now = name_at names c.args.tail.now _ (ap (position (bytes_eq c.args.tail.now)) same ∙ sym c.find.ensures.number ∙ c.unwrap-tail.ensures) in
    let head : get_or names c.unwrap-head.result [] ≡ c.args.head.now = name_at names c.args.head.now _ (ap (position (bytes_eq c.args.head.now)) same ∙ sym c.find-2.ensures.number ∙ c.unwrap-head.ensures) in
    let ends : Ends = record { tail = c.args.tail.now; head = c.args.head.now; fixed = c.args.fixed; cost = c.args.cost } in
    let more = ap (map (ends_in names)) c.in-Ok.ensures.items ∙ map-append (ends_in names) lines _ ∙ (λ i. map (ends_in names) lines ++ record { tail = tail i; head = head i; fixed = c.args.fixed; cost = c.args.cost } ∷ []) in
    λ i. record { kind = (was i).kind; names = same i; numbers = (was i).numbers; ends = (more ∙ ap (λ v. v.ends ++ ends ∷ []) was) i }
