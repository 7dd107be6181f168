use Rattle.std.proofs.Common.{◌≡◌, ◌++◌, take}
use Rattle.std.specs.List.{flat_map}
use Rattle.certificate_text.specs.Text.{line_text}
use Rattle.certificate_text.specs.declared.line.CertLine.TheVariants as line
use Rattle.certificate_text.proofs.spell.push_sets.Given as goal

abbrev pub invariant-loop-at : goal.invariant-loop-at
invariant-loop-at l = l.text.items ≡ l.fn.text.items ++ flat_map (λ X. line_text l.graph (line.Set X)) (take l.at l.sides)
