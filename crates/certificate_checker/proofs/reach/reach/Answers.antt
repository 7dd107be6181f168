use Rattle.std.proofs.Common.{◌≡◌, ◌+◌, ◌-◌, suc, ◌++◌, length, take, drop, ap, subst, ◌∙◌, arith, length-drop}
use Rattle.std.proofs.lemmas.List.{take_all}
use Rattle.certificate_checker.specs.TreeSides.{IsGrown, AreUncrossed}
use Rattle.certificate_checker.proofs.ReachLaws.{reach-made}
use Rattle.certificate_checker.proofs.reach.reach.Goals as goal

pub returns : goal.returns
returns c =
    let pairs = c.args.pairs.now in
    let j = c.args.j in
    let within = c.requires.j in
    let next : j + 1 ≡ suc j = omega arith in
    let behind : take (length pairs - (j + 1)) (drop (j + 1) pairs) ≡ drop (suc j) pairs =
    take_all (length pairs - (j + 1)) (drop (j + 1) pairs) (omega (arith, length-drop (j + 1) pairs)) ∙ ap (λ k. drop k pairs) next in
    reach-made (length c.args.side.now) c.hold_only.new.self c.grow.new.side pairs j c.hold_only.ensures.long c.hold_only.ensures.only
    (subst (λ b. IsGrown (take j pairs ++ b) c.hold_only.new.self c.grow.new.side) behind c.grow.ensures.grown)
    (subst (λ b. AreUncrossed c.grow.new.side (take j pairs ++ b)) behind c.grow.ensures.done)
