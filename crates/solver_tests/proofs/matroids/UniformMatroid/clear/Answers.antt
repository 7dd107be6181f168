use Rattle.std.proofs.Common.{◌≡◌, ◌∙◌, vec_len, length, false, replicate, ap, arith}
use Rattle.std.proofs.lemmas.List.{length-replicate}
use Rattle.graph_core.specs.Side.{size}
use Rattle.solver_tests.specs.Uniform.{size-none}
use Rattle.solver_tests.proofs.matroids.UniformMatroid.clear.Goals as goal

pub returns-clause-none : goal.returns-clause-none
returns-clause-none c =
    let many : vec_len c.args.set.now ≡ c.args.self.now.size = (let long = c.requires.0 in omega arith) in
    c.fill.ensures.items (λ y e. e) ∙ ap (λ m. replicate m false) many

pub returns-clause-kept : goal.returns-clause-kept
returns-clause-kept c =
    let none = returns-clause-none c in
    let size_is : size c.fill.new.self.items ≡ 0 = ap size none ∙ size-none c.args.self.now.size in
    (ap length none ∙ length-replicate c.args.self.now.size false, omega arith)
