use Rattle.certificate_checker.specs.TreeSides.{IsGrown}
use Rattle.certificate_checker.proofs.reach.spread_back.Given as goal

abbrev pub invariant-loop-k : goal.invariant-loop-k
invariant-loop-k l = IsGrown l.pairs l.initial.side l.side
