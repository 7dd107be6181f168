use Rattle.std.proofs.Common.{refl, ◌∙◌, inl}
use Rattle.certificate_text.specs.Text as certificate
use Rattle.connect_run.specs.TrialCase.{trial_graph}
use Rattle.connect_run.proofs.trial.reply_to_trial.Goals as goal

pub returns-in-Ok-clause-replies : goal.returns-in-Ok-clause-replies
returns-in-Ok-clause-replies g c =
    let cert = c.in-Ok.cert in
    let said = c.in-Ok.ensures in
    inl (
      c.as_slice.result.now,
      c.verdict.result,
      record {
        certificate = certificate.text (trial_graph c.args.kind c.args.nodes c.args.number) cert;
        solved = record { cert = cert; asks = said.asks; meets = said.meets; best = said.best; status_is = c.verdict.ensures; text_is = refl };
        text_is = c.as_slice.ensures.value ∙ c.trial_line-text.ensures;
      },
      c.say.ensures.said,
    )
