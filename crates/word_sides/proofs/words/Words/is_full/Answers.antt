use Rattle.std.proofs.Common.{◌≡◌, sym, ◌∙◌, true, false, eqb-true, eq-eqb}
use Rattle.std.proofs.lemmas.List.Elements.{All-get_or, All-from_get_or}
use Rattle.word_sides.proofs.CountLaws.{all_counted, count-all}
use Rattle.word_sides.proofs.words.Words.is_full.Goals as goal

pub returns : goal.returns
returns c = (
  λ yes. All-from_get_or (λ b. b ≡ true) c.args.self.now false (all_counted c.args.self.now (sym c.count.ensures ∙ eqb-true c.count.result c.len.result yes ∙ c.len.ensures)),
  λ all. eq-eqb c.count.result c.len.result (c.count.ensures ∙ count-all c.args.self.now (λ i l. All-get_or (λ b. b ≡ true) c.args.self.now i false l all) ∙ sym c.len.ensures),
)
