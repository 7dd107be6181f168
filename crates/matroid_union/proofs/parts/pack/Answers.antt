use Rattle.std.proofs.Common.{ℕ, false, sym}
use Rattle.matroid_union.specs.Parts.{own_of, part}
use Rattle.matroid_union.proofs.Chain.{holds_none}
use Rattle.matroid_union.proofs.Filled.{are_same}
use Rattle.matroid_union.proofs.parts.pack.Goals as goal

pub take_freely-requires-clause-whole : goal.take_freely-requires-clause-whole
take_freely-requires-clause-whole g c =
    are_same (g.M.Matroid.keeps c.args.matroid.now) g.M.Matroid.members (g.M.Matroid.count c.args.matroid.now) c.args.k (λ (p i : ℕ). false) (part (own_of c.args.owner.now)) c.in_ok-whole.whole (λ p j _ _. sym (holds_none (own_of c.args.owner.now j) p (c.requires.none j))) c.in_ok-whole.ensures
