use Rattle.std.proofs.Common.{subst, drop, inr}
use Rattle.std.proofs.lemmas.List.{take_rest}
use Rattle.connect_words.specs.declared.command.Command.TheVariants.{Check}
use Rattle.connect_run.specs.Answer.{AnswersInput}
use Rattle.connect_run.specs.CheckCase.{AnswersCheck}
use Rattle.connect_run.specs.Saying.{Replies}
use Rattle.connect_run.proofs.AnswerLemmas.{replies-weaker}
use Rattle.connect_run.proofs.answer.reply_to_check.Goals as goal

pub returns-in-Ok-clause-replies : goal.returns-in-Ok-clause-replies
returns-in-Ok-clause-replies g c = λ words.
    replies-weaker (AnswersCheck c.in-Ok.graph (drop c.in-Ok.count c.args.input.now)) (AnswersInput Check words c.args.input.now)
    (λ text status answers. inr (c.in-Ok.graph, c.in-Ok.count, c.in-Ok.ensures.text, answers)) _ _ _
    (subst (λ bytes. Replies (AnswersCheck c.in-Ok.graph bytes) (g.K.Sink.written c.args.sink.now) (g.K.Sink.written c.reply_to_certificate.new.sink) c.reply_to_certificate.result) (take_rest c.args.input.now c.in-Ok.count) c.reply_to_certificate.ensures.replies)
