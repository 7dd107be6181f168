use Rattle.std.proofs.Common.{refl, arith}
use Rattle.std.proofs.lemmas.List.Elements.{All-from_get_or}
use Rattle.problem_defs.specs.CutTree.{IsLeastCut}
use Rattle.certificate_checker.proofs.cut_tree.Cuts.are_right.Goals as goal

pub returns-clause-least : goal.returns-clause-least
returns-clause-least c =
    let g = c.args.self.now.cuts.graph.now in
    let pairs = c.args.pairs.now in
    (λ _. All-from_get_or (λ p. IsLeastCut g pairs p.0 p.1 p.2) pairs (0, 0, 0) (λ k l. c.loop-j.invariant.right k (omega arith)), λ _. refl)
