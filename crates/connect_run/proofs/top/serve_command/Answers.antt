use Rattle.std.proofs.Common.{◌≡◌, subst, map, string_bytes}
use Rattle.connect_words.specs.declared.command.Command.TheVariants.{Trial}
use Rattle.connect_words.proofs.MeaningLemmas.{one_command}
use Rattle.connect_words.specs.Commands.{Writes}
use Rattle.connect_run.specs.Answer.{AnswersCommand}
use Rattle.connect_run.specs.TrialCase.{AnswersTrial}
use Rattle.connect_run.specs.Run.{TellsTrialOf}
use Rattle.connect_run.proofs.AnswerLemmas.{replies-writes, replies-weaker, some_input}
use Rattle.connect_run.proofs.CommandLemmas.{reads-unless, trial-not-reading}
use Rattle.connect_run.proofs.ExactLemmas.{trial-tells}
use Rattle.connect_run.proofs.top.serve_command.Goals as goal

pub returns-in-Trial-clause-written : goal.returns-in-Trial-clause-written
returns-in-Trial-clause-written g c =
    let words = map string_bytes c.args.words.now in
    let trial = c.in-Trial in
    let command = Trial trial.kind trial.nodes trial.number in
    let (input, told) = some_input (g.S.Source.left c.args.source.now) in
    replies-writes words command _ _ _ input _ (subst (λ x. Writes x words) trial.is c.requires) told
    (replies-weaker (AnswersTrial trial.kind trial.nodes trial.number) (AnswersCommand command words input) (λ text status answers. answers) _ _ _ c.reply_to_trial.ensures.replies)

pub returns-in-Trial-clause-trial : goal.returns-in-Trial-clause-trial
returns-in-Trial-clause-trial g c = λ kind nodes number commands.
    let words = map string_bytes c.args.words.now in
    let trial = c.in-Trial in
    let same : Trial trial.kind trial.nodes trial.number ≡ Trial kind nodes number = one_command words _ _ (subst (λ x. Writes x words) trial.is c.requires) commands in
    let kind_is : trial.kind ≡ kind = cc in
    let nodes_is : trial.nodes ≡ nodes = cc in
    let number_is : trial.number ≡ number = cc in
    subst (λ k. TellsTrialOf k nodes number c.reply_to_trial.result) kind_is
    (subst (λ n. TellsTrialOf trial.kind n number c.reply_to_trial.result) nodes_is
    (subst (λ m. TellsTrialOf trial.kind trial.nodes m c.reply_to_trial.result) number_is (trial-tells trial.kind trial.nodes trial.number _ _ _ c.reply_to_trial.ensures.replies)))

pub returns-in_default-clause-untouched : goal.returns-in_default-clause-untouched
returns-in_default-clause-untouched g c = λ unread. absurd (unread (c.args.command.now, c.requires, reads-unless c.args.command.now c.in_default.not-Trial))

pub returns-in_default-clause-drained : goal.returns-in_default-clause-drained
returns-in_default-clause-drained g c = λ reading. c.serve_input.ensures.drained

pub returns-in_default-clause-trial : goal.returns-in_default-clause-trial
returns-in_default-clause-trial g c = λ kind nodes number commands.
    absurd (trial-not-reading (map string_bytes c.args.words.now) kind nodes number commands (c.args.command.now, c.requires, reads-unless c.args.command.now c.in_default.not-Trial))
