use Rattle.std.proofs.Common.{◌≡◌, ◌<◌, ◌≤◌, ◌+◌, [], ◌∷◌, ◌++◌, length, map, sym, ap, subst, ◌∙◌, false, rules}
use Rattle.std.specs.Str.{bytes_eq}
use Rattle.std.specs.List.{list_any, sum}
use Rattle.graph_text.specs.DraftView.{AreParts}
use Rattle.graph_text.specs.Text.{ends_in}
use Rattle.graph_text.proofs.DraftLemmas.{AreParts-name, sum-push}
use Rattle.graph_text.proofs.NamesLemmas.{ends_in-more}
use Rattle.graph_text.proofs.draft.Draft.push_node.Goals as goal

pub push_both-requires : goal.push_both-requires
push_both-requires c =
    let names = map (λ k. k.items) c.self.inside.names.keys in
    let same : c.in-Ok.name.items ≡ c.args.name.now = search rules in
    record { is_new = ap (λ n. list_any (bytes_eq n) names) same ∙ ap (λ v. list_any (bytes_eq c.args.name.now) v.names) c.self.view_is ∙ c.requires.is_new }

pub invariant_of-self-2 : goal.invariant_of-self-2
invariant_of-self-2 c =
    let inside = c.self.inside in
    let names = map (λ k. k.items) inside.names.keys in
    let numbers = inside.numbers.items in
    let name = c.args.name.now in
    let number = c.args.number in
    let same : c.in-Ok.name.items ≡ name = search rules in
    let was = c.self.view_is in
    let fresh : list_any (bytes_eq name) names ≡ false = ap (λ v. list_any (bytes_eq name) v.names) was ∙ c.requires.is_new in
    let room : length names < 128 = subst (λ ns. length ns < 128) (sym (ap (λ v. v.names) was)) c.requires.room in
    let total : sum numbers + number ≤ 65536 = subst (λ xs. sum xs + number ≤ 65536) (sym (ap (λ v. v.numbers) was)) c.requires.total in
    let more = c.in_ok-push_both.ensures.names ∙ ap (λ x. names ++ x ∷ []) same in
    let grown = AreParts-name inside.kind names numbers inside.lines.items name number c.self.invariant.parts room c.requires.named fresh c.requires.most total in
    record {
      parts = subst (λ ns. AreParts inside.kind ns c.push_both.new.numbers.items inside.lines.items) (sym more) (subst (λ xs. AreParts inside.kind (names ++ name ∷ []) xs inside.lines.items) (sym c.in_ok-push_both.ensures.numbers) grown);
      number_sum = ap (λ s. s + number) c.self.invariant.number_sum ∙ sym (sum-push numbers number) ∙ ap sum (sym c.in_ok-push_both.ensures.numbers);
      cost_sum = c.self.invariant.cost_sum;
    }

pub returns-clause-ok : goal.returns-clause-ok
returns-clause-ok c =
    let names = map (λ k. k.items) c.self.inside.names.keys in
    let lines = c.self.inside.lines.items in
    let name = c.args.name.now in
    let number = c.args.number in
    let same : c.in-Ok.name.items ≡ name = search rules in
    let was = c.self.view_is in
    let more = c.in_ok-push_both.ensures.names ∙ ap (λ x. names ++ x ∷ []) same in
    let ends = ap (λ ns. map (ends_in ns) lines) more ∙ ends_in-more names (name ∷ []) lines c.self.invariant.parts.within in
    λ i. record {
      kind = (was i).kind;
      names = (more ∙ ap (λ v. v.names ++ name ∷ []) was) i;
      numbers = (c.in_ok-push_both.ensures.numbers ∙ ap (λ v. v.numbers ++ number ∷ []) was) i;
      ends = (ends ∙ ap (λ v. v.ends) was) i;
    }
