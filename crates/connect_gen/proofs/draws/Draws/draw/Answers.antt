use Rattle.std.proofs.Common.{◌/◌, ◌%◌, ap, ◌∙◌}
use Rattle.connect_gen.specs.Draws.{next_state, drawn}
use Rattle.connect_gen.proofs.DrawLaws.{wraps-next}
use Rattle.connect_gen.proofs.draws.Draws.draw.Goals as goal

pub returns-clause-state : goal.returns-clause-state
returns-clause-state c = wraps-next c.args.self.now.state

pub returns-clause-value : goal.returns-clause-value
unfolding drawn
returns-clause-value c =
    ap (λ s. s / 8589934592 % c.from.result) (wraps-next c.args.self.now.state)
    ∙ ap (λ bound. next_state c.args.self.now.state / 8589934592 % bound) c.from.ensures
