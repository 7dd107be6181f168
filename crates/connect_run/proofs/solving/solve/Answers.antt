use Rattle.std.proofs.Common.{◌↔◌, subst}
use Rattle.problem_defs.specs.Impossible.{IsImpossible, IsNever}
use Rattle.problem_defs.proofs.NeverLaw.{never-impossible}
use Rattle.connect_run.proofs.solving.solve.Goals as goal

pub returns-clause-never : goal.returns-clause-never
returns-clause-never c =
    let cert = c.in_ok-cert.cert in
    subst (λ ask. IsNever cert.body ↔ IsImpossible c.args.graph.now ask) c.in_ok-cert.ensures.ask (never-impossible c.args.graph.now cert c.known.ensures c.in_ok-cert.ensures.meets)
