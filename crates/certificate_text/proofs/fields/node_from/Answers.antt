use Rattle.std.proofs.Common.{◌≡◌, [], sym, ◌∙◌, subst, inl, inr, arith, rules}
use Rattle.std.proofs.lemmas.Bool.{cases_eq}
use Rattle.std.proofs.lemmas.Option.{get_or_from_slice_get}
use Rattle.certificate_text.specs.Words as words_of
use Rattle.certificate_text.proofs.fields.node_from.Goals as goal

pub returns-then-eq-clause-some : goal.returns-then-eq-clause-some
returns-then-eq-clause-some c =
    let g = c.args.graph.now in
    let v = c.loop-v.v in
    let name : words_of.name_of g v ≡ c.bytes-name.result.now = get_or_from_slice_get g.names v c.name.result.now [] c.name.ensures ∙ sym c.bytes-name.ensures in
    let same : c.bytes-name.result.now ≡ c.args.word.now = search rules in
    record { from = search rules; below = search rules; found = name ∙ same; missing = c.loop-v.invariant }

pub loop-v-preserved : goal.loop-v-preserved
loop-v-preserved c = λ u from below.
    let g = c.args.graph.now in
    let v = c.loop-v.v in
    elim (cases_eq u v) [
      | inl here ↦ λ e.
          let name : words_of.name_of g v ≡ c.bytes-name.result.now = get_or_from_slice_get g.names v c.name.result.now [] c.name.ensures ∙ sym c.bytes-name.ensures in
          let same : c.bytes-name.result.now ≡ c.args.word.now = sym name ∙ subst (λ w. words_of.name_of g w ≡ c.args.word.now) here e in
          search rules
      | inr other ↦ c.loop-v.invariant u from (omega (arith, below, other))
    ]
