use Rattle.certificate_checker.proofs.ReachLaws.{IsSpread}
use Rattle.certificate_checker.proofs.reach.spread.Given as goal

abbrev pub invariant-loop-pair : goal.invariant-loop-pair
invariant-loop-pair l = IsSpread l.pairs l.initial.side l.side l.pair-index l.added
