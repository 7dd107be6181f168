use Rattle.std.proofs.Common.{◌≡◌, ◌++◌, ◌∷◌, take}
use Rattle.std.specs.Prelude.{codes}
use Rattle.std.specs.List.{join_with_byte}
use Rattle.certificate_text.specs.Words.{names_in}
use Rattle.certificate_text.proofs.spell.push_set.Given as goal

abbrev pub invariant-loop-v : goal.invariant-loop-v
invariant-loop-v l = l.text.items ≡ l.fn.text.items ++ join_with_byte 32 (codes "set" ∷ names_in (take l.v l.graph.names) (take l.v l.side))
