use Rattle.std.proofs.Common.{◌≡◌, ap, subst, ◌∙◌}
use Rattle.problem_defs.specs.Best.{IsBest}
use Rattle.problem_defs.proofs.BestLaw.{meets-best}
use Rattle.connect_gen.specs.Generated.{generated}
use Rattle.connect_run.specs.TrialCase.{trial_graph}
use Rattle.connect_run.proofs.trial.solved_trial.Goals as goal

pub returns-clause-best : goal.returns-clause-best
returns-clause-best c =
    let graph = c.in_ok-graph.graph in
    let cert = c.in_ok-cert.cert in
    let is : graph ≡ trial_graph c.args.kind c.args.nodes c.args.number = c.in_ok-graph.ensures.graph ∙ ap (λ kind. generated kind c.args.nodes c.args.number) c.graph_kind.ensures in
    subst (λ g. IsBest g cert.ask cert.body) is (meets-best graph cert c.known.ensures c.in_ok-cert.ensures.meets)
