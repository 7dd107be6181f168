use Rattle.std.proofs.Common.{◌≡◌, take}
use Rattle.graph_text.proofs.draft.Draft.to_names.Given as goal

abbrev pub invariant-loop-at : goal.invariant-loop-at
invariant-loop-at l = l.names.items ≡ take l.at l.self.names
